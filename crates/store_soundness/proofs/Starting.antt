-- Fresh tables are sound.
-- Assumes nothing.
use native.Mathlib.Omega.{arith}
use mathlib.Core.Path.{sym}
use mathlib.Core.Bool.{false}
use Rattle.id_tables.proofs.Meaning.{ok_passes}
use Rattle.store_tables.proofs.Entering.{entered}
use Rattle.store_soundness.specs.StoreCalls.{FreshSound}

pub fresh_sound : FreshSound
fresh_sound s e u c =
    let h = entered s false e in
    let o = h.ids in
    record {
      head_rule = e;
      ids = record {
        head_rule = sym (ok_passes s.ids h.ids);
        pending_differ = λ i j x y. absurd (omega arith);
        pending_below = λ j x. absurd (omega arith);
        pending_place = λ j x. absurd (omega arith);
        generation_nonzero = λ n x. absurd (omega arith);
        lives_placed = λ n l. absurd (omega (arith, l.0));
      };
      row_lives = λ a r x. absurd (omega (arith, x.1, c a));
      lives_named = λ n l. absurd (omega (arith, l.0));
      named_once = λ a r b q x. absurd (omega (arith, x.1, c a));
      own_place = λ a r x. absurd (omega (arith, x.1, c a));
    }
