-- `cells::place` meets its contract: the product of two 32-bit numbers fits, and the sum stops at the last place.
use Prim.Native.Nat.{ℕ, ◌*◌, ◌^◌, ◌<◌, ◌≤◌}
use native.Mathlib.Nat.{mul-le-mul}
use native.Mathlib.Omega.{arith}
use Rattle.cells.specs.Line.{told}
use Rattle.cells.proofs.place.Goals as goal

product : (count size : ℕ) → count < 2 ^ 32 → size < 2 ^ 32 → count * size ≤ 4294967295 * 4294967295
product count size c s = mul-le-mul {n₂ = 4294967295} {m₂ = 4294967295} (omega arith) (omega arith)

pub returns : goal.returns
unfolding told
returns c = c.saturating_add.ensures
