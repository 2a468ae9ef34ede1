-- What the rules of contains, get, resolve, len and clear say, for callers that do not open them.
-- Assumes nothing.
use Prim.{tt}
use Rattle.std.proofs.Common.{not, ◌≡◌, ℕ, zero, suc, ◌+◌, ◌<◌, ◌≤◌, Bool, true, false, cond, ◌&&◌, ◌||◌, eqb, ltb, leb, ◌⊎◌, List, [], ◌∷◌, ◌++◌, length, get_or, sym, refl, ap, ◌∙◌, inl, inr, ⊎_elim, true≢false, le_of_suc-le-suc, not-suc-le-zero, arith, ltb-true, le-ltb, lt-ltb, eq-eqb, ne_eqb, eqb-true, le-leb, leb-false, leb-true}
use mathlib.Core.Bool.{and-false, or-true}
use mathlib.Core.Logic.{⊎_map}
use borrow.Author.Tests.{lt-leb}
use Rattle.refusal.specs.Table.{Rule, Answer, granted, refused, ◌when◌, ◌or_else◌, passing}
use Rattle.refusal.specs.Truth.{and_parts}
use Rattle.refusal.specs.Laws.{passed_all, past, go, both, none_holds, value_of_lem, not_refused, stopped}
use Rattle.handle.specs.Bits.{MAX, bits_of, place_of, generation_in, number_in}
use Rattle.handle.specs.OnBits.{on_bits, on_rest, on_granted}
use Rattle.handle.specs.declared.Place.{Place}
use Rattle.id_tables.specs.declared.head.Head.{Head}
use Rattle.id_tables.specs.Head.{new_of}
use Rattle.id_tables.specs.Ids.{Ids, entry, live, live_in, generation_at, index_at, place_at}
use Rattle.id_tables.specs.Lookup.{any_is, reserved_old, is_reserved_old, reserved_new, is_contained, containing, place_got, getting, resolving, counting, clearing, cleared}

or_parts : (a b : Bool) → (a || b) ≡ true → (a ≡ true) ⊎ (b ≡ true)
or_parts true b e = inl refl
or_parts false b e = inr e

-- a number is among others
module _ (n : ℕ) where
  pub any_at : (ms : List ℕ) (i : ℕ) → i < length ms → get_or ms i 0 ≡ n → any_is n ms ≡ true
  unfolding any_is
  any_at [] i h e = absurd (not-suc-le-zero h)
  any_at (m ∷ ms) zero h e = simp (eq-eqb m n e)
  any_at (m ∷ ms) (suc i) h e = simp (any_at ms i (le_of_suc-le-suc h) e, or-true)

  pub any_found : (ms : List ℕ) → any_is n ms ≡ true → (i : ℕ) × (i < length ms) × (get_or ms i 0 ≡ n)
  unfolding any_is
  any_found [] e = absurd (true≢false (sym e))
  any_found (m ∷ ms) e =
      ⊎_elim (λ a. (0, omega arith, eqb-true m n a)) (λ b. let r = any_found ms b in (suc r.0, omega (arith, r.1), r.2)) (or_parts (eqb m n) _ e)

-- a recycled number that is reserved: it is below used, has this generation, and stands in pending past the free entries
pub record ReservedOld (s : Ids) (g n : ℕ) : Type 0 where
  pub below : n < s.head.used
  pub generation : generation_at s n ≡ g
  pub listed : any_is n (reserved_old s) ≡ true

-- a reserved new number
pub record ReservedNew (h : Head) (g n : ℕ) : Type 0 where
  pub generation : g ≡ 1
  pub past_used : h.used ≤ n
  pub within : n < h.used + new_of h.cursor

pub new_below : (h : Head) (g n : ℕ) → n < h.used → reserved_new h g n ≡ false
unfolding reserved_new
new_below h g n l = simp (lt-leb _ _ l, and-false)

module _ (s : Ids) (g n : ℕ) where
  pub old_means : is_reserved_old s g n ≡ true → ReservedOld s g n
  unfolding is_reserved_old
  old_means e =
      let a = and_parts _ _ e in
      let b = and_parts _ _ a.1 in
      record { below = ltb-true _ _ a.0; generation = eqb-true _ _ b.0; listed = b.1 }

  pub is_old : ReservedOld s g n → is_reserved_old s g n ≡ true
  unfolding is_reserved_old
  is_old o = simp (lt-ltb _ _ o.below, eq-eqb _ _ o.generation, o.listed)

  pub new_means : reserved_new s.head g n ≡ true → ReservedNew s.head g n
  unfolding reserved_new
  new_means e =
      let a = and_parts _ _ e in
      let b = and_parts _ _ a.1 in
      record { generation = eqb-true _ _ a.0; past_used = leb-true _ _ b.0; within = ltb-true _ _ b.1 }

  pub is_new_lem : ReservedNew s.head g n → reserved_new s.head g n ≡ true
  unfolding reserved_new
  is_new_lem r = simp (eq-eqb _ _ r.generation, le-leb _ _ r.past_used, lt-ltb _ _ r.within)

  -- a reserved new number is not live
  pub new_not_live : reserved_new s.head g n ≡ true → live s g n ≡ false
  unfolding live_in
  new_not_live e = simp (le-ltb _ _ (new_means e).past_used)

  -- contained: live, or reserved and recycled, or reserved and new
  pub contained : is_contained s g n ≡ true → (live s g n ≡ true) ⊎ ((is_reserved_old s g n ≡ true) ⊎ (reserved_new s.head g n ≡ true))
  unfolding is_contained
  contained e = ⊎_map (λ a. a) (or_parts (is_reserved_old s g n) _) (or_parts (live s g n) _ e)

  pub live_contained : live s g n ≡ true → is_contained s g n ≡ true
  unfolding is_contained
  live_contained e = simp e

  pub old_contained : is_reserved_old s g n ≡ true → is_contained s g n ≡ true
  unfolding is_contained
  old_contained e = simp (e, or-true)

  pub new_contained : reserved_new s.head g n ≡ true → is_contained s g n ≡ true
  unfolding is_contained
  new_contained e = simp (e, or-true)

  pub not_contained : live s g n ≡ false → is_reserved_old s g n ≡ false → reserved_new s.head g n ≡ false → is_contained s g n ≡ false
  unfolding is_contained
  not_contained l o r = simp (l, o, r)

  -- get: a live number's place, (0, MAX) for a reserved new number, else 2
  pub got_live : live s g n ≡ true → place_got s g n ≡ granted (place_at s n)
  unfolding place_got ◌or_else◌
  got_live e = simp e

  pub got_new : reserved_new s.head g n ≡ true → place_got s g n ≡ granted (place_of 0 MAX)
  unfolding place_got ◌or_else◌
  got_new e = simp (new_not_live e, e)

  pub got_none : live s g n ≡ false → reserved_new s.head g n ≡ false → place_got s g n ≡ refused 2
  unfolding place_got ◌or_else◌
  got_none l r = simp (l, r)

  pub got_refused : {m : ℕ} → refused m ≡ place_got s g n → (m ≡ 2) × (not (live s g n || reserved_new s.head g n) ≡ true)
  unfolding place_got
  got_refused e = let x = stopped _ _ _ _ e in (x.1, x.0)

  -- a recycled number that is reserved and has no place: contained, and refused by get
  pub got_old : ReservedOld s g n → index_at s n ≡ MAX → (is_contained s g n ≡ true) × (place_got s g n ≡ refused 2)
  unfolding live_in
  got_old o x = (old_contained (is_old o), got_none (simp (eq-eqb _ _ x, lt-ltb _ _ o.below, eq-eqb _ _ o.generation)) (new_below _ _ _ o.below))

  -- what get grants
  pub got_parts : {p : Place} → granted p ≡ place_got s g n
      → ((live s g n ≡ true) × (p ≡ place_at s n)) ⊎ ((reserved_new s.head g n ≡ true) × (p ≡ place_of 0 MAX))
  got_parts {p} e = by (live s g n) (reserved_new s.head g n) refl refl
    where
      by : (a b : Bool) → live s g n ≡ a → reserved_new s.head g n ≡ b → ((live s g n ≡ true) × (p ≡ place_at s n)) ⊎ ((reserved_new s.head g n ≡ true) × (p ≡ place_of 0 MAX))
      by true b l r = let k = got_live l in inl (l, cc)
      by false true l r = let k = got_new r in inr (r, cc)
      by false false l r = absurd (not_refused (e ∙ got_none l r))

-- a call on a handle's bits: its first tests passed, and the generation is not 0
pub record Entered (s : Ids) (bits : ℕ) : Type 0 where
  pub passes : granted tt ≡ passing (entry s false)
  pub nonzero : generation_in bits ≡ 0 → ⊥

module _ (s : Ids) (bits : ℕ) where
  -- past them the rest of a rule speaks, and what is granted is past them
  pub at_rest : {A : Type 0} (rest : ℕ → ℕ → Answer A) → Entered s bits → on_bits (entry s false) bits rest ≡ rest (generation_in bits) (number_in bits)
  at_rest rest t = on_rest _ _ _ t.passes t.nonzero

  pub entered : {A : Type 0} {v : A} (rest : ℕ → ℕ → Answer A) → granted v ≡ on_bits (entry s false) bits rest
      → Entered s bits × (granted v ≡ rest (generation_in bits) (number_in bits))
  entered rest e = let p = on_granted _ _ _ e in (record { passes = p.0; nonzero = p.1 }, p.2)

  pub containing_at : Entered s bits → containing s bits ≡ granted (is_contained s (generation_in bits) (number_in bits))
  unfolding containing
  containing_at t = at_rest _ t

  pub containing_parts : {b : Bool} → granted b ≡ containing s bits → Entered s bits × (b ≡ is_contained s (generation_in bits) (number_in bits))
  unfolding containing
  containing_parts e = let p = entered _ e in (p.0, cc)

  pub getting_at : Entered s bits → getting s bits ≡ place_got s (generation_in bits) (number_in bits)
  unfolding getting
  getting_at t = at_rest _ t

  pub getting_parts : {p : Place} → granted p ≡ getting s bits → Entered s bits × (granted p ≡ place_got s (generation_in bits) (number_in bits))
  unfolding getting
  getting_parts e = entered _ e

-- the calls that take no handle, past the first tests
module _ (s : Ids) where
  pub counting_at : granted tt ≡ passing (entry s false) → counting s ≡ granted s.head.live
  unfolding counting
  counting_at t = past _ _ t

  pub counting_parts : {k : ℕ} → granted k ≡ counting s → (granted tt ≡ passing (entry s false)) × (k ≡ s.head.live)
  unfolding counting
  counting_parts e = ((passed_all _ _ e).0, value_of_lem _ _ e)

  pub clearing_at : granted tt ≡ passing (entry s false) → clearing s ≡ granted (tt, cleared s)
  unfolding clearing
  clearing_at t = past _ _ t

  pub clearing_parts : {t : Ids} → granted (tt, t) ≡ clearing s → (granted tt ≡ passing (entry s false)) × (t ≡ cleared s)
  unfolding clearing
  clearing_parts e = ((passed_all _ _ e).0, ap (λ x. x.1) (value_of_lem _ _ e))

  -- nothing is contained after a clear
  pub cleared_none : (g n : ℕ) → is_contained (cleared s) g n ≡ false
  unfolding is_contained live_in is_reserved_old reserved_new
  cleared_none g n = simp (le-ltb n 0 (omega arith), and-false)

-- resolve: a live number's handle, a reserved new number's handle, and what is granted
module _ (s : Ids) (n : ℕ) where
  abbrev stored : ℕ
  stored = cond (ltb n s.head.used) (generation_at s n) 1

  rest : List Rule
  rest = 2 when leb (s.head.used + new_of s.head.cursor) n ∷ 1 when (ltb n s.head.used && eqb (generation_at s n) 0) ∷ []

  pub resolving_live : (g : ℕ) → granted tt ≡ passing (entry s false) → live s g n ≡ true → (g ≡ 0 → ⊥) → resolving s n ≡ granted (bits_of g n)
  unfolding resolving ◌or_else◌ live_in
  resolving_live g t l ne =
      let a = and_parts (ltb n s.head.used) _ l in
      let e : generation_at s n ≡ g = eqb-true _ _ (and_parts _ _ a.1).0 in
      let h : n < s.head.used + new_of s.head.cursor = omega (arith, ltb-true n s.head.used a.0) in
      go (entry s false) _ _ t ∙ simp (lt-leb _ _ h, a.0, e, ne_eqb g 0 ne)

  pub resolving_new : granted tt ≡ passing (entry s false) → ReservedNew s.head 1 n → resolving s n ≡ granted (bits_of 1 n)
  unfolding resolving ◌or_else◌
  resolving_new t r = go (entry s false) _ _ t ∙ simp (lt-leb _ _ r.within, le-ltb _ _ r.past_used)

  pub resolving_parts : {b : ℕ} → granted b ≡ resolving s n
      → (granted tt ≡ passing (entry s false)) × (n < s.head.used + new_of s.head.cursor) × (b ≡ bits_of stored n)
  unfolding resolving rest
  resolving_parts e =
      let a = passed_all (entry s false ++ rest) (granted (bits_of stored n)) e in
      let b = both (entry s false) rest a.0 in
      (b.0, leb-false _ _ (none_holds rest b.1).0, cc)
