-- Fresh tables are sound: nothing is used, and no row.
-- Assumes nothing.
use Prim.{tt}
use Prim.Native.Nat.{ℕ}
use native.Mathlib.Omega.{arith}
use mathlib.Core.Path.{◌≡◌, sym}
use mathlib.Core.Bool.{false}
use Rattle.refusal.specs.Table.{granted, passing}
use Rattle.id_tables.specs.Ids.{Ids, EntryOk}
use Rattle.id_tables.proofs.Meaning.{ok_passes}
use Rattle.row_step.specs.Tables.{count_of}
use Rattle.store_tables.specs.Store.{Store, entry}
use Rattle.store_tables.proofs.Entering.{entered}
use Rattle.soundness.specs.Sound.{SoundIds, Sound}

pub fresh_ids : {s : Ids} → EntryOk s → s.head.used ≡ 0 → SoundIds s
fresh_ids {s} ok z =
    record {
      head_rule = sym (ok_passes s ok);
      pending_differ = λ i j h l e. omega arith;
      pending_below = λ j h. absurd (omega arith);
      pending_place = λ j h. absurd (omega arith);
      generation_nonzero = λ n h e. omega arith;
      lives_placed = λ n l e. (let x = l.0 in omega arith);
    }

pub fresh_sound : {s : Store} → granted tt ≡ passing (entry s false) → s.ids.head.used ≡ 0 → ((a : ℕ) → count_of s.rows a ≡ 0) → Sound s
fresh_sound {s} e z c =
    record {
      head_rule = e;
      ids = fresh_ids (entered s false e).ids z;
      row_lives = λ a r u. absurd (let x = u.1 in omega (arith, c a));
      lives_named = λ n l. absurd (let x = l.0 in omega arith);
      named_once = λ a r b q u v w. absurd (let x = u.1 in omega (arith, c a));
      own_place = λ a r u. absurd (let x = u.1 in omega (arith, c a));
    }
