-- A head and its four words.
-- Assumes nothing.
use Prim.Native.Nat.{ℕ}
use mathlib.Core.Path.{◌≡◌}
use mathlib.Core.List.{List, [], ◌∷◌}
use lib.IntN.{ℤ}
use lib.ListN.{get_or}
use mir.Syntax.{w64}
use mir.Val.{SFits, to_z, of_z}
use mir.Facts.{to_z-of_z}
use Rattle.id_tables.specs.declared.head.Head.{Head}
use Rattle.crossing.specs.Words.{signed_of, head_of}

-- the head of words that were written from it: a signed number goes by its bits
pub written : (h : Head) (w : ℕ) → SFits w64 h.cursor → signed_of w ≡ to_z w64 (of_z w64 h.cursor) → head_of (h.used ∷ h.pending ∷ w ∷ h.live ∷ []) ≡ h
unfolding head_of
written h w f e = rw (e, to_z-of_z f)

-- and the head of words that are read
pub taken : (ws : List ℕ) (z : ℤ) → SFits w64 z → z ≡ signed_of (get_or ws 2 0) → record { used = get_or ws 0 0; pending = get_or ws 1 0; cursor = to_z w64 (of_z w64 z); live = get_or ws 3 0 } ≡ head_of ws
unfolding head_of
taken ws z f e = rw (to_z-of_z f, e)
