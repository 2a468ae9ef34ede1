-- A borrow word that a call changes in place, and a handle's two halves.
use Prim.{Unit, tt}
use Rattle.std.specs.Prelude.{ℕ, List}
use Rattle.refusal.specs.Table.{Answer, granted, refused}
use Rattle.handle.specs.Bits.{number_in, generation_in}
use Rattle.crossing.specs.Answers.{four}

-- the word that is granted is the one that is left
abbrev pub in_place : Answer ℕ → Answer (Unit {0} × ℕ)
in_place (granted w) = granted (tt, w)
in_place (refused n) = refused n

abbrev pub halves_four : ℕ → List ℕ
halves_four bits = four (number_in bits) (generation_in bits) 0 0
