-- Sound of a store: sound id tables, tables that pass the first tests, and rows and places in step for the numbers that live.
-- Assumes nothing.
use Prim.Native.Nat.{ℕ}
use mathlib.Core.Path.{◌≡◌, refl, sym, ap, ◌∙◌}
use mathlib.Core.Bool.{false}
use Rattle.handle.specs.Bits.{place_of}
use Rattle.handle.specs.declared.Place.{Place}
use Rattle.id_tables.specs.Ids.{Ids, index_at, place_at}
use Rattle.decl.specs.Decl.{Decl, columns}
use Rattle.row_step.specs.Tables.{Rows}
use mathlib.Core.List.{List}
use lib.ListN.{length}
use Rattle.column_entry.specs.Kept.{Ready}
use Rattle.store_tables.specs.Store.{Store, store_of}
use Rattle.store_tables.specs.Kept.{Entered}
use Rattle.store_tables.proofs.Entering.{entered}
use Rattle.store_tables.proofs.Passing.{entered_passes}
use Rattle.soundness.specs.Sound.{Lives, SoundIds, Sound}
use Rattle.soundness.proofs.Meaning.{sound_ok}
use Rattle.store_soundness.proofs.Seated.{Seat, Seated, archetype_at, archetype_is, row_is}

module _ {s : Store} (sound : Sound s) where
  pub sound_entered : Entered s
  sound_entered = entered s false sound.head_rule

  pub sound_seated : Seated s.decl s.rows s.ids (Lives s.ids)
  sound_seated =
      record {
        named = λ a r h k. sound.row_lives a r (h, k);
        place = λ a r h k. sound.own_place a r (h, k);
        seat = λ n l.
            let (a, r, u, e) = sound.lives_named n l in
            let p : place_at s.ids n ≡ place_of a r = rw e at (sound.own_place a r u) in
            let ea = archetype_is s.ids n a r p in
            let er = row_is s.ids n a r p in
            record { archetype_in = rw ea u.0; row_in = rw (ea, er) u.1; holds = rw (ea, er) e };
      }

  pub seat_of : (n : ℕ) → Lives s.ids n → Seat s.decl s.rows s.ids n
  seat_of n l = sound_seated.seat n l

-- and back
module _ (d : Decl) (i : Ids) (w : Rows) (words : List ℕ) where
  pub seated_sound : SoundIds i → Ready d w → length words ≡ columns d → Seated d w i (Lives i) → Sound (store_of d i w words)
  seated_sound k ready long t =
      record {
        head_rule = entered_passes (store_of d i w words) false (record { ids = sound_ok i k; rows = ready; words_long = long }) refl;
        ids = k;
        row_lives = λ a r u. t.named a r u.0 u.1;
        lives_named = λ n l. let q = t.seat n l in (archetype_at i n, index_at i n, (q.archetype_in, q.row_in), q.holds);
        named_once = λ a r b q u v e.
            let p : place_of a r ≡ place_of b q = sym (t.place a r u.0 u.1) ∙ ap (place_at i) e ∙ t.place b q v.0 v.1 in
            (ap (λ (x : Place). x.archetype) p, ap (λ (x : Place). x.index.0) p);
        own_place = λ a r u. t.place a r u.0 u.1;
      }
