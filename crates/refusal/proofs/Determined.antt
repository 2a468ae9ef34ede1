-- The contract determines the number: no second one fits.
-- Assumes nothing.
use Prim.Native.Nat.{ℕ}
use mathlib.Core.Path.{◌≡◌, sym, ◌∙◌}
use Rattle.refusal.specs.declared.Refusal.{Refusal}
use Rattle.refusal.specs.Number.{number_of}

pub number : (self : Refusal) (r s : ℕ) → r ≡ number_of self → s ≡ number_of self → r ≡ s
number self r s d e = d ∙ sym e
