-- What an answer says of the rules that led to it, and how a call's proof uses the tests that it ran.
use Prim.{Unit, tt}
use Rattle.std.specs.Prelude.{ℕ, Bool, true, false, ◌≡◌, refl, List, [], ◌∷◌, ◌++◌, Result}
use Rattle.std.proofs.Common.{arith, sym, ap, ◌∙◌}
use Rattle.std.specs.Result.{IsErrAnd}
use Rattle.std.proofs.lemmas.Result.{err_from_is_err_and}
use Rattle.refusal.specs.Number.{number_of}
use Rattle.refusal.specs.declared.Refusal.{Refusal}
use Rattle.refusal.specs.Table.{Rule, ◌when◌, Answer, granted, refused, ◌or_else◌, ◌otherwise◌, passing, answer_of, answer_by, value_of, left_of, Did}

-- a refusal that `?` hands up is the one that the call gave
pub handed_up : {A : Type 0} {a : Answer A} (r : Result A Refusal) (e : Refusal) → IsErrAnd r (λ x. x ≡ e) → refused (number_of e) ≡ a → answer_of r ≡ a
handed_up r e h k = let p = err_from_is_err_and r h in rw (p.1, p.2) k

pub handed_up_by : {R A : Type 0} {a : Answer A} (values : R → A) (r : Result R Refusal) (e : Refusal) → IsErrAnd r (λ x. x ≡ e) → refused (number_of e) ≡ a → answer_by values r ≡ a
handed_up_by values r e h k = let p = err_from_is_err_and r h in rw (p.1, p.2) k

pub not_refused : {A : Type 0} {n : ℕ} {v : A} → granted v ≡ refused n → ⊥
not_refused e = let z : ◌≡◌ {A = ℕ} 0 1 = cc in omega arith

-- a value is granted only past each rule
pub passed : {A : Type 0} {v : A} (n : ℕ) (t : Bool) (rest : List Rule) (a : Answer A) → granted v ≡ (n when t ∷ rest or_else a) → (t ≡ false) × (granted v ≡ (rest or_else a))
unfolding ◌or_else◌
passed n true rest a e = absurd (not_refused e)
passed n false rest a e = (refl, e)

-- and past all of them it is what follows
pub passed_all : {A : Type 0} {v : A} (rules : List Rule) (a : Answer A) → granted v ≡ (rules or_else a) → (granted tt ≡ passing rules) × (granted v ≡ a)
unfolding ◌or_else◌
passed_all [] a e = (refl, e)
passed_all (n when true ∷ rest) a e = absurd (not_refused e)
passed_all (n when false ∷ rest) a e = passed_all rest a e

-- the value that is granted is the one that the rule names
pub value_of_lem : {A : Type 0} {v : A} (rules : List Rule) (w : A) → granted v ≡ (rules otherwise w) → v ≡ w
unfolding ◌or_else◌
value_of_lem [] w e = cc
value_of_lem (n when t ∷ rest) w e = value_of_lem rest w (passed n t rest (granted w) e).1

-- where the only rule refuses, it applies
pub stopped : {A : Type 0} (m n : ℕ) (t : Bool) (w : A) → refused m ≡ (n when t ∷ [] otherwise w) → (t ≡ true) × (m ≡ n)
unfolding ◌or_else◌
stopped m n true w e = (refl, cc)
stopped m n false w e = absurd (not_refused (sym e))

-- tests that all passed leave what follows them, and the first that refuses decides
pub past : {A : Type 0} (rules : List Rule) (a : Answer A) → granted tt ≡ passing rules → (rules or_else a) ≡ a
unfolding ◌or_else◌
past [] a e = refl
past (n when true ∷ rest) a e = absurd (not_refused e)
past (n when false ∷ rest) a e = past rest a e

pub halted : {A : Type 0} {m : ℕ} (rules : List Rule) (a : Answer A) → refused m ≡ passing rules → (rules or_else a) ≡ refused m
unfolding ◌or_else◌
halted [] a e = absurd (not_refused (sym e))
halted (n when true ∷ rest) a e = cc
halted (n when false ∷ rest) a e = halted rest a e

-- rules in two parts: those of the first part come first
pub parts : {A : Type 0} (rules more : List Rule) (a : Answer A) → (rules ++ more or_else a) ≡ (rules or_else (more or_else a))
unfolding ◌or_else◌
parts [] more a = refl
parts (n when true ∷ rest) more a = refl
parts (n when false ∷ rest) more a = parts rest more a

module _ {A : Type 0} (rules more : List Rule) (a : Answer A) where
  pub stop : {m : ℕ} → refused m ≡ passing rules → (rules ++ more or_else a) ≡ refused m
  stop e = parts rules more a ∙ halted rules _ e

  pub go : granted tt ≡ passing rules → (rules ++ more or_else a) ≡ (more or_else a)
  go e = parts rules more a ∙ past rules _ e

-- tests in two parts that all passed
pub both : (rules more : List Rule) → granted tt ≡ passing (rules ++ more) → (granted tt ≡ passing rules) × (granted tt ≡ passing more)
unfolding ◌or_else◌
both [] more e = (refl, e)
both (n when true ∷ rest) more e = (e, absurd (not_refused e))
both (n when false ∷ rest) more e = both rest more e

-- no test of a list holds, and that is what passing them all says
abbrev pub NoneHolds : List Rule → Type 0
NoneHolds [] = Unit {0}
NoneHolds (n when t ∷ rest) = (t ≡ false) × NoneHolds rest

pub none_holds : (rules : List Rule) → granted tt ≡ passing rules → NoneHolds rules
unfolding ◌or_else◌
none_holds [] e = tt
none_holds (n when true ∷ rest) e = absurd (not_refused e)
none_holds (n when false ∷ rest) e = (refl, none_holds rest e)

-- the first rule to refuse refuses whatever might follow
pub stops : {A B : Type 0} {m : ℕ} (rules : List Rule) (v : A) (b : Answer B) → refused m ≡ (rules otherwise v) → (rules or_else b) ≡ refused m
unfolding ◌or_else◌
stops [] v b e = absurd (not_refused (sym e))
stops (k when true ∷ rest) v b e = cc
stops (k when false ∷ rest) v b e = stops rest v b e

-- what a call said, once its result has been taken apart
pub told : {A : Type 0} {a : Answer A} (r t : Result A Refusal) → answer_of r ≡ a → r ≡ t → answer_of t ≡ a
told r t e p = sym (ap answer_of p) ∙ e

module _ {A S : Type 0} {rule : Answer (A × S)} {lent : S} where
  pub grant : {v : A} {s : S} → rule ≡ granted (v, s) → Did rule lent (granted v) s
  grant e = record { answer = ap value_of (sym e); leaves = ap (λ (r : Answer (A × S)). left_of r lent) (sym e) }

  pub refuse : {n : ℕ} → rule ≡ refused n → Did rule lent (refused n) lent
  refuse e = record { answer = ap value_of (sym e); leaves = ap (λ (r : Answer (A × S)). left_of r lent) (sym e) }

  -- a call that did what another rule says, which says the same here
  pub via : {rule' : Answer (A × S)} {a : Answer A} {s : S} → rule ≡ rule' → Did rule' lent a s → Did rule lent a s
  via e d = rw e d

  -- no second answer and no second state fit
  pub determined : {a b : Answer A} {s t : S} → Did rule lent a s → Did rule lent b t → (a ≡ b) × (s ≡ t)
  determined d e = (d.answer ∙ sym e.answer, d.leaves ∙ sym e.leaves)

-- what a call did says what its rule is
pub did_granted : {A S : Type 0} {lent s : S} {v : A} (rule : Answer (A × S)) → Did rule lent (granted v) s → rule ≡ granted (v, s)
did_granted {v = v} (granted x) d = let e : v ≡ x.0 = cc in rw (e, d.leaves)
did_granted (refused n) d = absurd (not_refused d.answer)

pub did_refused : {A S : Type 0} {lent s : S} {n : ℕ} (rule : Answer (A × S)) → Did rule lent (refused n) s → (rule ≡ refused n) × (s ≡ lent)
did_refused (granted x) d = absurd (not_refused (sym d.answer))
did_refused (refused m) d = (cc, d.leaves)

-- no second result fits a promise, where the document's answer tells the results apart
module _ {A R : Type 0} (answer_of : R → Answer A) (tells : (r r' : R) → answer_of r ≡ answer_of r' → r ≡ r') (r r' : R) where
  pub sole_answer : {a : Answer A} → answer_of r ≡ a → answer_of r' ≡ a → r ≡ r'
  sole_answer d e = tells r r' (d ∙ sym e)

  pub sole : {S : Type 0} {rule : Answer (A × S)} {lent s t : S} → Did rule lent (answer_of r) s → Did rule lent (answer_of r') t → (r ≡ r') × (s ≡ t)
  sole d e = let p = determined d e in (tells r r' p.0, p.1)
