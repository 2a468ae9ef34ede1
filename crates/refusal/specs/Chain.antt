-- How a run of tests is shown test by test: the first that refuses decides.
use Prim.{Unit, tt}
use Rattle.std.specs.Prelude.{ℕ, Bool, true, false, List, [], ◌∷◌, ◌++◌, ◌≡◌, refl}
use Rattle.std.proofs.Common.{sym, ◌∙◌}
use Rattle.refusal.specs.Table.{Rule, ◌when◌, Answer, granted, refused, ◌or_else◌, passing}
use Rattle.refusal.specs.Laws as laws

-- one test
pub applies : {t : Bool} (n : ℕ) (rest : List Rule) → t ≡ true → refused n ≡ passing (n when t ∷ rest)
unfolding ◌or_else◌
applies n rest e = rw e

pub onward : {a : Answer (Unit {0})} {t : Bool} (n : ℕ) (rest : List Rule) → t ≡ false → a ≡ passing rest → a ≡ passing (n when t ∷ rest)
unfolding ◌or_else◌
onward n rest e h = rw e h

pub through : granted tt ≡ passing []
unfolding ◌or_else◌
through = refl

-- two runs of tests
module _ (rules more : List Rule) where
  pub stop : {n : ℕ} → refused n ≡ passing rules → refused n ≡ passing (rules ++ more)
  stop e = sym (laws.stop rules more (granted tt) e)

  pub go : {a : Answer (Unit {0})} → granted tt ≡ passing rules → a ≡ passing more → a ≡ passing (rules ++ more)
  go e h = h ∙ sym (laws.go rules more (granted tt) e)
