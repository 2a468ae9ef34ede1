-- A handle's bits come back whole, both ways; no handle of generation 0 is made; no second answer fits.
use Rattle.std.specs.Prelude.{ℕ, ◌^◌, ◌<◌, true, false, ◌≡◌, refl, eqb, Result, Ok, Err}
use Rattle.std.proofs.Common.{sym, ap, ◌∙◌, ne_eqb}
use Rattle.std.proofs.lemmas.Bool.{eqb-false}
use Rattle.std.proofs.Math.Pow.{split, high, low}
use Rattle.refusal.specs.Table.{granted, ◌or_else◌}
use Rattle.refusal.specs.Distinct.{tells_by}
use Rattle.refusal.specs.Laws.{value_of_lem, passed, stopped}
use Rattle.refusal.specs.declared.Refusal.{Refusal}
use Rattle.handle.specs.declared.Handle.{Handle}
use Rattle.handle.specs.declared.Number.{Number}
use Rattle.handle.specs.Bits.{bits_of, generation_in, number_in, handle_of, from_bits, new_handle}

-- packed, then unpacked
pub generation_back : (g n : ℕ) → n < 2 ^ 32 → generation_in (bits_of g n) ≡ g
generation_back g n h = high g 32 h

pub number_back : (g n : ℕ) → n < 2 ^ 32 → number_in (bits_of g n) ≡ n
number_back g n h = low g 32 h

-- unpacked, then packed
pub bits_back : (b : ℕ) → bits_of (generation_in b) (number_in b) ≡ b
bits_back b = split b 32

-- two handles with the same bits are one, and so of numbers
pub same_handle : (x y : Handle) → x.0 ≡ y.0 → x ≡ y
same_handle x y q = λ i. record { 0 = q i }

pub same_number : (x y : Number) → x.0 ≡ y.0 → x ≡ y
same_number x y q = λ i. record { 0 = q i }

-- the answer of `from_bits` and `new` is told apart by the document's answer
pub tells : (r s : Result Handle Refusal) → handle_of r ≡ handle_of s → r ≡ s
tells = tells_by (λ h. h.0) same_handle

-- to_bits, then from_bits: where the generation is not 0, the handle comes back
pub from_to : (h : Handle) (b : ℕ) (r : Result Handle Refusal) → (generation_in h.0 ≡ 0 → ⊥) → b ≡ h.0 → handle_of r ≡ from_bits b → r ≡ Ok h
unfolding from_bits ◌or_else◌
from_to h b r ne e a = tells r (Ok h) (a ∙ simp (e, ne_eqb (generation_in h.0) 0 ne))

-- from_bits, then to_bits: where it is granted, the bits come back
pub to_from : (b c : ℕ) (h : Handle) → handle_of (Ok h) ≡ from_bits b → c ≡ h.0 → c ≡ b
unfolding from_bits
to_from b c h a e = e ∙ value_of_lem _ _ a

-- what a caller has learnt in each arm that takes the answer of `from_bits` apart
pub good : (b : ℕ) (r : Result Handle Refusal) (h : Handle) → handle_of r ≡ from_bits b → r ≡ Ok h → (h.0 ≡ b) × (eqb (generation_in b) 0 ≡ false)
unfolding from_bits
good b r h a p = let e : granted h.0 ≡ from_bits b = sym (ap handle_of p) ∙ a in (value_of_lem _ _ e, (passed _ _ _ _ e).0)

pub bad : (b : ℕ) (r : Result Handle Refusal) (x : Refusal) → handle_of r ≡ from_bits b → r ≡ Err x → eqb (generation_in b) 0 ≡ true
unfolding from_bits
bad b r x a p = (stopped _ _ _ _ (sym (ap handle_of p) ∙ a)).0

-- and in each that takes the answer of `new` apart
pub new_good : (n g : ℕ) (r : Result Handle Refusal) (h : Handle) → handle_of r ≡ new_handle n g → r ≡ Ok h → (h.0 ≡ bits_of g n) × (eqb g 0 ≡ false)
unfolding new_handle
new_good n g r h a p = let e : granted h.0 ≡ new_handle n g = sym (ap handle_of p) ∙ a in (value_of_lem _ _ e, (passed _ _ _ _ e).0)

pub new_bad : (n g : ℕ) (r : Result Handle Refusal) (x : Refusal) → handle_of r ≡ new_handle n g → r ≡ Err x → eqb g 0 ≡ true
unfolding new_handle
new_bad n g r x a p = (stopped _ _ _ _ (sym (ap handle_of p) ∙ a)).0

-- a generation that is not 0 makes a handle
pub new_made : (n g : ℕ) (r : Result Handle Refusal) → handle_of r ≡ new_handle n g → (g ≡ 0 → ⊥) → handle_of r ≡ granted (bits_of g n)
unfolding new_handle ◌or_else◌
new_made n g r a ne = a ∙ simp (ne_eqb g 0 ne)

-- no public function makes a handle of generation 0
pub from_bits_nonzero : (b : ℕ) (h : Handle) → handle_of (Ok h) ≡ from_bits b → generation_in h.0 ≡ 0 → ⊥
from_bits_nonzero b h a z = let g = good b (Ok h) h a refl in eqb-false (generation_in b) 0 g.1 (ap generation_in (sym g.0) ∙ z)

pub new_nonzero : (n g : ℕ) (h : Handle) → n < 2 ^ 32 → handle_of (Ok h) ≡ new_handle n g → generation_in h.0 ≡ 0 → ⊥
unfolding new_handle
new_nonzero n g h fits a z =
    eqb-false g 0 (passed _ _ _ _ a).0 (sym (generation_back g n fits) ∙ ap generation_in (sym (value_of_lem _ _ a)) ∙ z)
