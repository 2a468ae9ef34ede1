-- Lists that hold exactly the elements of a kind, each once.
-- Assumes nothing.
use Prim.Native.Nat.{ℕ, zero, suc, ◌+◌, ◌-◌, ◌≤◌, ◌<◌}
use native.Mathlib.Omega.{arith}
use native.Mathlib.Nat.{eq-or-lt_of_le, le_antisymm, not-suc-le-zero, le_of_suc-le-suc}
use native.Mathlib.Decide.{ℕ_discrete, dec_lt}
use mathlib.Core.Path.{◌≡◌, refl, sym, ap, ◌∙◌}
use mathlib.Core.Logic.{◌≢◌, ◌⊎◌, inl, inr, ⊎_elim}
use mathlib.Core.List.Memᴰ
use mathlib.Core.List.{List, [], ◌∷◌, ◌++◌, map, Memᴰ}
use lib.ListN.{length, get_or}
use Rattle.id_tables.specs.Runs.{up_from, up_from_none, up_from_cons}

-- a < b or b ≤ a; equal or not
pub below_or : (a b : ℕ) → (a < b) ⊎ (b ≤ a)
below_or a b = by (dec_lt a b)
  where
    by : Dec (a < b) → (a < b) ⊎ (b ≤ a)
    by (yes l) = inl l
    by (no n) = inr (omega arith)

pub eq_or : (a b : ℕ) → (a ≡ b) ⊎ (a ≢ b)
eq_or a b = by (ℕ_discrete a b)
  where
    by : Dec (a ≡ b) → (a ≡ b) ⊎ (a ≢ b)
    by (yes e) = inl e
    by (no n) = inr n

abbrev pub Mem : {A : Type 0} → A → List A → Type 0
Mem a l = Memᴰ a l

module _ {A : Type 0} where
  -- no element stands twice
  abbrev pub Distinct : List A → Type 0
  Distinct [] = Unit {0}
  Distinct (x ∷ xs) = (Mem x xs → ⊥) × Distinct xs

  -- the list holds exactly the elements with P, each once
  pub record Lists (P : A → Type 0) (xs : List A) : Type 0 where
    pub once : Distinct xs
    pub only : (x : A) → Mem x xs → P x
    pub all : (x : A) → P x → Mem x xs

  distinct_append : (xs ys : List A) → Distinct xs → Distinct ys → ((x : A) → Mem x xs → Mem x ys → ⊥) → Distinct (xs ++ ys)
  distinct_append [] ys dx dy apart = dy
  distinct_append (x ∷ xs) ys dx dy apart = (
    λ m. ⊎_elim dx.0 (apart x (Memᴰ.head refl)) (Memᴰ.append_cases xs m),
    distinct_append xs ys dx.1 dy (λ z m. apart z (Memᴰ.tail m)),
  )

  pub lists_none : Lists (λ (x : A). ⊥) []
  lists_none = record { once = tt; only = λ x m. Memᴰ.not-nil m; all = λ x z. absurd z }

  pub lists_one : (a : A) → Lists (λ (x : A). x ≡ a) (a ∷ [])
  lists_one a =
      record {
        once = (λ m. Memᴰ.not-nil m, tt);
        only = λ x m. ⊎_elim (λ (e : x ≡ a). e) (λ (t : Mem x []). absurd (Memᴰ.not-nil t)) (Memᴰ.cases_cons m);
        all = λ x e. Memᴰ.head e;
      }

  pub lists_as : {P Q : A → Type 0} {xs : List A} → ((x : A) → P x → Q x) → ((x : A) → Q x → P x) → Lists P xs → Lists Q xs
  lists_as to back l = record { once = l.once; only = λ x m. to x (l.only x m); all = λ x q. l.all x (back x q) }

  pub lists_join : {P Q : A → Type 0} {xs ys : List A} → ((x : A) → P x → Q x → ⊥) → Lists P xs → Lists Q ys → Lists (λ (x : A). P x ⊎ Q x) (xs ++ ys)
  lists_join {P} {Q} {xs} {ys} apart l r =
      record {
        once = distinct_append xs ys l.once r.once (λ x m k. apart x (l.only x m) (r.only x k));
        only = λ x m. ⊎_elim (λ (k : Mem x xs). inl (l.only x k)) (λ (k : Mem x ys). inr (r.only x k)) (Memᴰ.append_cases xs m);
        all = λ x p. ⊎_elim (λ (k : P x). Memᴰ.append_left ys (l.all x k)) (λ (k : Q x). Memᴰ.append_right xs (r.all x k)) p;
      }

  -- two lists of one kind hold the same
  pub same_members : {P : A → Type 0} {xs ys : List A} → Lists P xs → Lists P ys → (x : A) → Mem x xs → Mem x ys
  same_members l r x m = r.all x (l.only x m)

  -- a list with one element x fewer
  shorter : (x : A) (ys : List A) → Mem x ys → (zs : List A) × (length ys ≡ suc (length zs)) × ((z : A) → z ≢ x → Mem z ys → Mem z zs)
  shorter x [] m = absurd (Memᴰ.not-nil m)
  shorter x (y ∷ ys) m =
      ⊎_elim
      (λ (e : x ≡ y). (ys, refl, λ z n t. ⊎_elim (λ (w : z ≡ y). absurd (n (w ∙ sym e))) (λ (w : Mem z ys). w) (Memᴰ.cases_cons t)))
      (λ (t : Mem x ys). let (zs, l, k) = shorter x ys t in (y ∷ zs, ap suc l, λ z n w. ⊎_elim (λ (u : z ≡ y). Memᴰ.head u) (λ (u : Mem z ys). Memᴰ.tail (k z n u)) (Memᴰ.cases_cons w)))
      (Memᴰ.cases_cons m)

  -- different elements of a list are no more than it has
  pub at_most : (xs ys : List A) → Distinct xs → ((z : A) → Mem z xs → Mem z ys) → length xs ≤ length ys
  at_most [] ys d h = omega arith
  at_most (x ∷ xs) ys d h =
      let (zs, l, k) = shorter x ys (h x (Memᴰ.head refl)) in
      let r : length xs ≤ length zs = at_most xs zs d.1 (λ z m. k z (λ e. d.0 (Memᴰ.cast (sym e) m)) (h z (Memᴰ.tail m))) in
      omega arith

  pub same_length : {P : A → Type 0} {xs ys : List A} → Lists P xs → Lists P ys → length xs ≡ length ys
  same_length {P} {xs} {ys} l r = le_antisymm (at_most xs ys l.once (λ z m. r.all z (l.only z m))) (at_most ys xs r.once (λ z m. l.all z (r.only z m)))

module _ {A B : Type 0} (f : A → B) where
  mem_map_of : {x : A} (xs : List A) → Mem x xs → Mem (f x) (map f xs)
  mem_map_of (y ∷ ys) m = ⊎_elim (λ (e : _ ≡ y). Memᴰ.head (ap f e)) (λ (t : Mem _ ys). Memᴰ.tail (mem_map_of ys t)) (Memᴰ.cases_cons m)
  mem_map_of [] m = absurd (Memᴰ.not-nil m)

  mem_map : {y : B} (xs : List A) → Mem y (map f xs) → (x : A) × Mem x xs × (y ≡ f x)
  mem_map [] m = absurd (Memᴰ.not-nil m)
  mem_map {y} (x ∷ xs) m =
      ⊎_elim (λ (e : y ≡ f x). (x, Memᴰ.head refl, e)) (λ (t : Mem y (map f xs)). let (z, k, e) = mem_map xs t in (z, Memᴰ.tail k, e)) (Memᴰ.cases_cons m)

  distinct_map : (xs : List A) → ((x y : A) → Mem x xs → Mem y xs → f x ≡ f y → x ≡ y) → Distinct xs → Distinct (map f xs)
  distinct_map [] inj d = tt
  distinct_map (x ∷ xs) inj d = (
    λ m. let (z, k, e) = mem_map xs m in d.0 (Memᴰ.cast (inj x z (Memᴰ.head refl) (Memᴰ.tail k) e) k),
    distinct_map xs (λ a b m k e. inj a b (Memᴰ.tail m) (Memᴰ.tail k) e) d.1,
  )

  pub lists_map : {P : A → Type 0} {xs : List A} → ((x y : A) → P x → P y → f x ≡ f y → x ≡ y) → Lists P xs → Lists (λ (y : B). (x : A) × P x × (y ≡ f x)) (map f xs)
  lists_map {P} {xs} inj l =
      record {
        once = distinct_map xs (λ x y m k e. inj x y (l.only x m) (l.only y k) e) l.once;
        only = λ y m. let (x, k, e) = mem_map xs m in (x, l.only x k, e);
        all = λ y p. Memᴰ.cast p.2 (mem_map_of xs (l.all p.0 p.1));
      }

-- the k numbers from a up
up_only : (a k m : ℕ) → Mem m (up_from a k) → (a ≤ m) × (m < a + k)
up_only a zero m h = absurd (Memᴰ.not-nil (rw (up_from_none a) at h))
up_only a (suc k) m h =
    ⊎_elim (λ (e : m ≡ a). omega arith) (λ (t : Mem m (up_from (a + 1) k)). let (l, u) = up_only (a + 1) k m t in omega arith)
    (Memᴰ.cases_cons (rw (up_from_cons a k) at h))

up_all : (a k m : ℕ) → a ≤ m → m < a + k → Mem m (up_from a k)
up_all a zero m l u = absurd (omega arith)
up_all a (suc k) m l u =
    rw (up_from_cons a k)
    (⊎_elim (λ (e : a ≡ m). Memᴰ.head (sym e)) (λ (h : a < m). Memᴰ.tail (up_all (a + 1) k m (omega arith) (omega arith))) (eq-or-lt_of_le l))

up_once : (a k : ℕ) → Distinct (up_from a k)
up_once a zero = rw (up_from_none a) tt
up_once a (suc k) = rw (up_from_cons a k) (λ m. let (l, u) = up_only (a + 1) k a m in omega arith, up_once (a + 1) k)

abbrev pub Between : ℕ → ℕ → ℕ → Type 0
Between a b m = (a ≤ m) × (m < b)

pub lists_up : (a b : ℕ) → Lists (Between a b) (up_from a (b - a))
lists_up a b =
    record {
      once = up_once a (b - a);
      only = λ m h. let (l, u) = up_only a (b - a) m h in omega arith;
      all = λ m h. up_all a (b - a) m h.0 (let (l, u) = h in omega arith);
    }

-- the same by positions
abbrev pub Among : ℕ → List ℕ → Type 0
Among x xs = (i : ℕ) × (i < length xs) × (get_or xs i 0 ≡ x)

pub mem_among : (x : ℕ) (xs : List ℕ) → Mem x xs → Among x xs
mem_among x [] m = absurd (Memᴰ.not-nil m)
mem_among x (y ∷ ys) m =
    ⊎_elim (λ (e : x ≡ y). (0, omega arith, sym e)) (λ (t : Mem x ys). let (i, h, e) = mem_among x ys t in (suc i, omega arith, e)) (Memᴰ.cases_cons m)

pub among_mem : (x : ℕ) (xs : List ℕ) → Among x xs → Mem x xs
among_mem x xs a = by xs a.0 a.1 a.2
  where
    by : (ys : List ℕ) (i : ℕ) → i < length ys → get_or ys i 0 ≡ x → Mem x ys
    by [] i h e = absurd (not-suc-le-zero h)
    by (y ∷ ys) zero h e = Memᴰ.head (sym e)
    by (y ∷ ys) (suc i) h e = Memᴰ.tail (by ys i (le_of_suc-le-suc h) e)

pub distinct_differ : (xs : List ℕ) → Distinct xs → (i j : ℕ) → i < j → j < length xs → get_or xs i 0 ≡ get_or xs j 0 → ⊥
distinct_differ [] d i j h k e = not-suc-le-zero k
distinct_differ (x ∷ xs) d i zero h k e = not-suc-le-zero h
distinct_differ (x ∷ xs) d zero (suc j) h k e = d.0 (among_mem x xs (j, le_of_suc-le-suc k, sym e))
distinct_differ (x ∷ xs) d (suc i) (suc j) h k e = distinct_differ xs d.1 i j (le_of_suc-le-suc h) (le_of_suc-le-suc k) e

pub differ_distinct : (xs : List ℕ) → ((i j : ℕ) → i < j → j < length xs → get_or xs i 0 ≡ get_or xs j 0 → ⊥) → Distinct xs
differ_distinct [] d = tt
differ_distinct (x ∷ xs) d = (
  λ m. let (i, h, e) = mem_among x xs m in d 0 (suc i) (omega arith) (omega arith) (sym e),
  differ_distinct xs (λ i j h k e. d (suc i) (suc j) (omega arith) (omega arith) e),
)
