-- A call on a handle's bits: its first tests, then 5 for a zero generation, then what is said of the generation and the number.
use Prim.{tt}
use Rattle.std.specs.Prelude.{ℕ, ◌≡◌, List, [], ◌∷◌, ◌++◌, Result, Ok, Err}
use Rattle.std.proofs.Common.{◌∙◌}
use borrow.Author.Tests.{ne_eqb, eqb-false}
use Rattle.std.proofs.Math.Dec.{eqb}
use Rattle.refusal.specs.Table.{Rule, ◌when◌, Answer, granted, refused, ◌or_else◌, passing}
use Rattle.refusal.specs.Laws.{stop, go, passed_all, both, none_holds}
use Rattle.refusal.specs.declared.Refusal.{Refusal}
use Rattle.handle.specs.declared.Handle.{Handle}
use Rattle.handle.specs.Bits.{generation_in, number_in, handle_of, from_bits}
use Rattle.handle.specs.RoundTrip.{good, bad}

unfoldable pub on_bits : {A : Type 0} → List Rule → ℕ → (ℕ → ℕ → Answer A) → Answer A
on_bits first bits rest = first ++ 5 when eqb (generation_in bits) 0 ∷ [] or_else rest (generation_in bits) (number_in bits)

module _ {A : Type 0} (first : List Rule) (bits : ℕ) (rest : ℕ → ℕ → Answer A) where
  -- the first tests refuse
  pub on_first : {m : ℕ} → refused m ≡ passing first → on_bits first bits rest ≡ refused m
  unfolding on_bits
  on_first e = stop first _ _ e

  -- they pass, and `from_bits` refuses
  pub on_zero : (r : Result Handle Refusal) (x : Refusal) → granted tt ≡ passing first → handle_of r ≡ from_bits bits → r ≡ Err x → on_bits first bits rest ≡ refused 5
  unfolding on_bits ◌or_else◌
  on_zero r x e a p = go first _ _ e ∙ rw (bad bits r x a p)

  -- they pass, and `from_bits` gives a handle: the rest speaks of it
  pub on_good : (r : Result Handle Refusal) (h : Handle) → granted tt ≡ passing first → handle_of r ≡ from_bits bits → r ≡ Ok h
      → on_bits first bits rest ≡ rest (generation_in h.0) (number_in h.0)
  unfolding on_bits ◌or_else◌
  on_good r h e a p = let g = good bits r h a p in go first _ _ e ∙ rw (g.1, g.0)

  -- the same of bits that nothing has taken apart yet
  pub on_rest : granted tt ≡ passing first → (generation_in bits ≡ 0 → ⊥) → on_bits first bits rest ≡ rest (generation_in bits) (number_in bits)
  unfolding on_bits ◌or_else◌
  on_rest e ne = go first _ _ e ∙ simp (ne_eqb (generation_in bits) 0 ne)

  -- past the first tests: 5 for a zero generation, and then the rest
  pub on_past : granted tt ≡ passing first → on_bits first bits rest ≡ (5 when eqb (generation_in bits) 0 ∷ [] or_else rest (generation_in bits) (number_in bits))
  unfolding on_bits
  on_past e = go first _ _ e

  -- what is granted is past all of these tests, and is what the rest grants
  pub on_granted : {v : A} → granted v ≡ on_bits first bits rest
      → (granted tt ≡ passing first) × (generation_in bits ≡ 0 → ⊥) × (granted v ≡ rest (generation_in bits) (number_in bits))
  unfolding on_bits
  on_granted e =
      let a = passed_all (first ++ 5 when eqb (generation_in bits) 0 ∷ []) (rest (generation_in bits) (number_in bits)) e in
      let b = both first (5 when eqb (generation_in bits) 0 ∷ []) a.0 in
      (b.0, eqb-false (generation_in bits) 0 (none_holds (5 when eqb (generation_in bits) 0 ∷ []) b.1).0, a.1)
