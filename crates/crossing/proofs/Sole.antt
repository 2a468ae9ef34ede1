-- No second result fits what a call promises across: not its number, not its four numbers, not what it leaves, the head's words among them.
-- Assumes nothing.
use Prim.Native.Nat.{ℕ, ◌^◌, ◌<◌}
use mathlib.Core.Path.{◌≡◌, sym, ap, ◌∙◌}
use mathlib.Core.List.{List}
use mir.Syntax.{w64}
use mir.Facts.{to_z_inj}
use Rattle.refusal.specs.Table.{Answer}
use Rattle.id_tables.specs.declared.head.Head.{Head}
use Rattle.id_tables.specs.Ids.{Ids, ids_of}
use Rattle.crossing.specs.Words.{signed_of, head_of}
use Rattle.crossing.specs.Answers.{Told, Crossed, Passed, four}
use Rattle.crossing.proofs.Signed.{read_as}

-- four numbers of 64 bits, as a head crosses
pub record Four (ws : List ℕ) : Type 0 where
  pub used : ℕ
  pub pending : ℕ
  pub cursor : ℕ
  pub live : ℕ
  pub is : ws ≡ four used pending cursor live
  pub small : cursor < 2 ^ 64

signed_one : (a b : ℕ) → a < 2 ^ 64 → b < 2 ^ 64 → signed_of a ≡ signed_of b → a ≡ b
signed_one a b h k e = to_z_inj {w = w64} (record { fits = h }) (record { fits = k }) (read_as a ∙ e ∙ sym (read_as b))

words_one : (a b c d a' b' c' d' : ℕ) → c < 2 ^ 64 → c' < 2 ^ 64 → head_of (four a b c d) ≡ head_of (four a' b' c' d') → four a b c d ≡ four a' b' c' d'
unfolding head_of
words_one a b c d a' b' c' d' h k e =
    rw (ap (λ (s : Head). s.used) e, ap (λ (s : Head). s.pending) e, signed_one c c' h k (ap (λ (s : Head). s.cursor) e), ap (λ (s : Head). s.live) e)

pub heads_one : {ws ws' : List ℕ} → Four ws → Four ws' → head_of ws ≡ head_of ws' → ws ≡ ws'
heads_one f g e = f.is ∙ words_one _ _ _ _ _ _ _ _ f.small g.small (rw (f.is, g.is) at e) ∙ sym g.is

-- a call that changes nothing
abbrev pub Only : {A : Type 0} → (A → List ℕ) → Answer A → Type 0
Only values a = (c c' : ℕ) (o o' : List ℕ) → Told values a c o → Told values a c' o' → (c ≡ c') × (o ≡ o')

pub only : {A : Type 0} (values : A → List ℕ) (a : Answer A) → Only values a
only values a c c' o o' d e = (d.code_is ∙ sym e.code_is, d.out_is ∙ sym e.out_is)

-- a call that changes what it is lent
pub crossed_one : {A S : Type 0} {values : A → List ℕ} {rule : Answer (A × S)} {lent l l' : S} {c c' : ℕ} {o o' : List ℕ}
    → Crossed values rule lent c o l → Crossed values rule lent c' o' l' → (c ≡ c') × (o ≡ o') × (l ≡ l')
crossed_one d e = (d.told.code_is ∙ sym e.told.code_is, d.told.out_is ∙ sym e.told.out_is, d.leaves ∙ sym e.leaves)

pub passed_one : {A S : Type 0} {rule : Answer (A × S)} {lent l l' : S} {c c' : ℕ} → Passed rule lent c l → Passed rule lent c' l' → (c ≡ c') × (l ≡ l')
passed_one d e = (d.code_is ∙ sym e.code_is, d.leaves ∙ sym e.leaves)

-- the same of the id tables, with a head that crosses
abbrev pub CrossedIds : {A : Type 0} → (A → List ℕ) → Answer (A × Ids) → Ids → Type 0
CrossedIds values rule s =
    (c c' : ℕ) (o o' ws ws' g a x p g' a' x' p' : List ℕ) → Four ws → Four ws' → Crossed values rule s c o (ids_of (head_of ws) g a x p)
    → Crossed values rule s c' o' (ids_of (head_of ws') g' a' x' p') → (c ≡ c') × (o ≡ o') × (ws ≡ ws') × (g ≡ g') × (a ≡ a') × (x ≡ x') × (p ≡ p')

pub crossed_ids_one : {A : Type 0} (values : A → List ℕ) (rule : Answer (A × Ids)) (s : Ids) → CrossedIds values rule s
crossed_ids_one values rule s c c' o o' ws ws' g a x p g' a' x' p' f f' d e =
    let q = crossed_one d e in
    (q.0, q.1, heads_one f f' (ap (λ (t : Ids). t.head) q.2), ap (λ (t : Ids). t.generations) q.2, ap (λ (t : Ids). t.archetypes) q.2, ap (λ (t : Ids). t.indices) q.2, ap (λ (t : Ids). t.pending) q.2)

abbrev pub PassedIds : {A : Type 0} → Answer (A × Ids) → Ids → Type 0
PassedIds rule s =
    (c c' : ℕ) (ws ws' g a x p g' a' x' p' : List ℕ) → Four ws → Four ws' → Passed rule s c (ids_of (head_of ws) g a x p)
    → Passed rule s c' (ids_of (head_of ws') g' a' x' p') → (c ≡ c') × (ws ≡ ws') × (g ≡ g') × (a ≡ a') × (x ≡ x') × (p ≡ p')

pub passed_ids_one : {A : Type 0} (rule : Answer (A × Ids)) (s : Ids) → PassedIds rule s
passed_ids_one rule s c c' ws ws' g a x p g' a' x' p' f f' d e =
    let q = passed_one d e in
    (q.0, heads_one f f' (ap (λ (t : Ids). t.head) q.1), ap (λ (t : Ids). t.generations) q.1, ap (λ (t : Ids). t.archetypes) q.1, ap (λ (t : Ids). t.indices) q.1, ap (λ (t : Ids). t.pending) q.1)

-- and of any other state
abbrev pub CrossedAny : {A S : Type 0} → (A → List ℕ) → Answer (A × S) → S → Type 0
CrossedAny {S = S} values rule s = (c c' : ℕ) (o o' : List ℕ) (l l' : S) → Crossed values rule s c o l → Crossed values rule s c' o' l' → (c ≡ c') × (o ≡ o') × (l ≡ l')

pub crossed_any : {A S : Type 0} (values : A → List ℕ) (rule : Answer (A × S)) (s : S) → CrossedAny values rule s
crossed_any values rule s c c' o o' l l' d e = crossed_one d e

abbrev pub PassedAny : {A S : Type 0} → Answer (A × S) → S → Type 0
PassedAny {S = S} rule s = (c c' : ℕ) (l l' : S) → Passed rule s c l → Passed rule s c' l' → (c ≡ c') × (l ≡ l')

pub passed_any : {A S : Type 0} (rule : Answer (A × S)) (s : S) → PassedAny rule s
passed_any rule s c c' l l' d e = passed_one d e
