-- An answer that gives a handle: what its call did.
-- Assumes nothing.
use Prim.Native.Nat.{ℕ, ◌<◌}
use mathlib.Core.Path.{◌≡◌, sym, ◌∙◌}
use mathlib.Core.List.{List}
use native.Mathlib.Omega.{arith}
use native.Mathlib.Nat.{pos_of_ne-zero}
use lib.ListN.{get_or}
use Rattle.std.specs.Prelude.{Result}
use Rattle.refusal.specs.Table.{Answer, granted, Did}
use Rattle.refusal.specs.Laws.{grant}
use Rattle.refusal.specs.declared.Refusal.{Refusal}
use Rattle.handle.specs.Bits.{bits_of, handle_of, new_handle}
use Rattle.handle.specs.RoundTrip.{new_made}
use Rattle.handle.specs.declared.Handle.{Handle}
use Rattle.id_tables.proofs.Meaning.{Undamaged}

pub given_did : {S : Type 0} {rule : Answer (ℕ × S)} {s t : S} {a : Answer ℕ} {bits : ℕ} → a ≡ granted bits → rule ≡ granted (bits, t) → Did rule s a t
given_did w e = rw w (grant e)

-- a generation that is not 0 makes a handle
pub made : (r : Result Handle Refusal) (n g : ℕ) → handle_of r ≡ new_handle n g → 0 < g → handle_of r ≡ granted (bits_of g n)
made r n g e h = new_made n g r e (λ z. omega arith)

-- as that of an undamaged entry is
pub makes_handle : {used : ℕ} {generations indices : List ℕ} {n m k : ℕ} → Undamaged used generations indices n → m ≡ n → k ≡ get_or generations m 0 → 0 < k
makes_handle u e g = pos_of_ne-zero (λ z. u.generation (sym (rw e at g) ∙ z))
