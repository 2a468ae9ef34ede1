-- What one byte of a text changes.
-- Assumes nothing.
use Rattle.std.proofs.Common.{◌≡◌, ap, List, ℕ, ◌+◌, ◌<◌, ◌≤◌, length}
use Rattle.std.proofs.Math.ListN.{set}
use Rattle.std.proofs.lemmas.Bool.{lt-ltb, le-ltb}
use Rattle.replay_line.specs.Text.{digit_of, with_digit, Reading, reading, stored, read}

module _ (t : List ℕ) (n v b d : ℕ) (is : d ≡ digit_of b) where
  pub on_digit : (w : ℕ) → d < 16 → w ≡ with_digit v d → reading t n w ≡ read (reading t n v) b
  unfolding read
  on_digit w h e = rw (← is, lt-ltb d 16 h, e)

  pub on_end : 16 ≤ d → n < length t → reading (set t n v) (n + 1) 0 ≡ read (reading t n v) b
  unfolding read stored
  on_end h room = rw (← is, le-ltb d 16 h, lt-ltb n (length t) room)

  pub on_full : 16 ≤ d → length t ≤ n → reading t n 0 ≡ read (reading t n v) b
  unfolding read stored
  on_full h full = rw (← is, le-ltb d 16 h, le-ltb n (length t) full)

pub told : (whole : Reading) (t : List ℕ) (n v : ℕ) → reading t n v ≡ whole → (n ≡ whole.count) × (t ≡ whole.table)
told whole t n v e = (ap (λ (s : Reading). s.count) e, ap (λ (s : Reading). s.table) e)
