-- The contracts determine the results: no second one fits. One instance a function, under its name.
-- Assumes nothing.
use Prim.Native.Nat.{ℕ}
use mathlib.Core.Path.{◌≡◌, sym, ◌∙◌}
use Rattle.refusal.specs.Laws.{sole_answer}
use Rattle.handle.specs.declared.Number.{Number}
use Rattle.handle.specs.declared.Handle.{Handle}
use Rattle.refusal.specs.declared.Refusal.{Refusal}
use Rattle.std.specs.Prelude.{Result}
use Rattle.handle.specs.Bits.{bits_of, number_in, generation_in, handle_of, from_bits, new_handle}
use Rattle.handle.specs.RoundTrip.{tells, same_number}

pub bits_of_lem : (generation number : ℕ) (r s : ℕ) → r ≡ bits_of generation number → s ≡ bits_of generation number → r ≡ s
bits_of_lem generation number r s d e = d ∙ sym e

pub new : (number generation : ℕ) (r s : Result Handle Refusal) → handle_of r ≡ new_handle number generation → handle_of s ≡ new_handle number generation → r ≡ s
new number generation r s d e = sole_answer handle_of tells r s d e

pub from_bits_lem : (bits : ℕ) (r s : Result Handle Refusal) → handle_of r ≡ from_bits bits → handle_of s ≡ from_bits bits → r ≡ s
from_bits_lem bits r s d e = sole_answer handle_of tells r s d e

pub to_bits : (bits : ℕ) (r s : ℕ) → r ≡ bits → s ≡ bits → r ≡ s
to_bits bits r s d e = d ∙ sym e

pub id : (bits : ℕ) (r s : Number) → r.0 ≡ number_in bits → s.0 ≡ number_in bits → r ≡ s
id bits r s d e = same_number r s (d ∙ sym e)

pub generation : (bits : ℕ) (r s : ℕ) → r ≡ generation_in bits → s ≡ generation_in bits → r ≡ s
generation bits r s d e = d ∙ sym e
