-- A signed number is what the machine reads its 64 bits as.
-- Assumes nothing.
use Rattle.std.proofs.Common.{◌≡◌, refl, ℕ, suc, ◌-◌, ◌^◌, Bool, true, false, cond, ℤ, pos, negsuc, ltb, w64, to_z}
use mir.Val.{sel}
use Rattle.crossing.specs.Words.{signed_of}

chosen : (b : Bool) (x y : ℤ) → sel b x y ≡ cond b x y
chosen true x y = refl
chosen false x y = refl

pub read_as : (w : ℕ) → to_z w64 w ≡ signed_of w
unfolding signed_of
read_as w = chosen (ltb w (2 ^ 63)) (pos w) (negsuc (2 ^ 64 - suc w))
