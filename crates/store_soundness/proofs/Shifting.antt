-- Spawn at, insert and remove on sound tables, as specs has it.
-- Assumes nothing.
use Prim.{Unit}
use mathlib.Core.Path.{refl, ap}
use Rattle.handle.specs.Bits.{number_in}
use Rattle.ids.proofs.Laws.{good_chosen}
use Rattle.store_tables.specs.Store.{Store}
use Rattle.store_tables.proofs.Entering.{entered_right}
use Rattle.store_tables.proofs.Running.{right_run}
use Rattle.store_spawn_at.proofs.Laws.{spawning_at_parts}
use Rattle.store_spawn_at.proofs.Refusing.{spawning_at_lines}
use Rattle.store_moves.proofs.Seeking.{target_means}
use Rattle.store_insert.proofs.Refusing.{inserting_lines}
use Rattle.store_remove.proofs.Refusing.{removing_lines}
use Rattle.soundness.specs.Sound.{Sound}
use Rattle.soundness.proofs.Choosing.{undoubted}
use Rattle.store_soundness.specs.StoreMoves.{Keeps, Refuses, OthersRead, NamedRead}
use Rattle.store_soundness.proofs.Bridge.{sound_entered}
use Rattle.store_soundness.proofs.Leaving.{own_row, moved_whole}
use Rattle.store_soundness.proofs.SpawnAt.{chosen_lived, spawn_at_kept}
use Rattle.store_soundness.proofs.SpawnAtReads.{spawn_at_others, spawn_at_read, spawn_at_lacks}
use Rattle.store_soundness.proofs.Moves.{wrote_sound, insert_nonzero, insert_right, insert_came, insert_kept, insert_others, remove_nonzero, remove_went, remove_kept, remove_others}
use Rattle.store_soundness.proofs.Batched.{write_others, write_read}
use Rattle.store_soundness.proofs.Named.{grown_read, grown_same, shrunk_read, shrunk_same}
use Rattle.store_soundness.proofs.Calling.{own, moved_good}
use Rattle.store_soundness.proofs.Telling.{same_value}

pub keeps : (s : Store) → Sound s → Keeps s
keeps s sound =
    record {
      spawn_at = λ bits a run t e. spawn_at_kept s bits a run sound e;
      insert = λ bits type value t e. insert_kept s bits type value sound e;
      remove = λ bits type t e. remove_kept s bits type sound e;
    }

pub refuses : (s : Store) → Sound s → Refuses s
refuses s sound =
    let e = sound_entered sound in
    record {
      spawn_at = λ bits a run. (
        _,
        spawning_at_lines s bits a run e (record {
          own = λ l. own_row sound (chosen_lived sound.ids (number_in bits) l);
          chosen_good = good_chosen s.ids (number_in bits) (undoubted sound.ids (number_in bits));
          moved_good = λ l. moved_whole sound (chosen_lived sound.ids (number_in bits) l);
        }),
      );
      insert = λ bits type value. (_, inserting_lines s bits type value e (λ l. (own sound _ _ l, moved_good sound _ _ l)));
      remove = λ bits type. (_, removing_lines s bits type e (λ l. (own sound _ _ l, moved_good sound _ _ l)));
    }

pub others_read : (s : Store) → Sound s → OthersRead s
others_read s sound =
    record {
      spawn_at = λ bits a run t e other type ne.
          let p = spawning_at_parts s a run bits e in
          rw (ap (λ (x : Unit {0} × Store). x.1) (same_value p.3)) (spawn_at_others sound run p.2 p.1 other type ne);
      insert = λ bits type value t e other kind ne. insert_others s bits type value sound e other kind ne;
      remove = λ bits type t e other kind ne. remove_others s bits type sound e other kind ne;
    }

pub named_read : (s : Store) → Sound s → NamedRead s
named_read s sound =
    record {
      spawn_at = λ bits a run t e type j c.
          let p = spawning_at_parts s a run bits e in
          rw (ap (λ (x : Unit {0} × Store). x.1) (same_value p.3))
          (spawn_at_read sound run p.2 p.1 bits type refl refl (right_run s.decl a run p.2.archetype_in (entered_right s _ p.0)) j c);
      spawn_at_lacks = λ bits a run t e type c.
          let p = spawning_at_parts s a run bits e in
          rw (ap (λ (x : Unit {0} × Store). x.1) (same_value p.3)) (spawn_at_lacks sound run p.2 p.1 bits type refl refl c);
      insert = λ bits type value t e.
          insert_came s bits type value sound e (λ p. write_read sound p (wrote_sound sound p))
          (λ b k v. let y = target_means s.decl _ b k.target in
          rw (ap (λ (x : Unit {0} × Store). x.1) v) (grown_read sound bits (insert_nonzero s bits type value sound e) k.entity b y.0 k.move type value y.1 (insert_right s bits type value sound e)));
      insert_keeps = λ bits type value t e kind ne.
          insert_came s bits type value sound e (λ p. write_others sound p (wrote_sound sound p) bits kind (λ _. ne))
          (λ b k v. let y = target_means s.decl _ b k.target in
          rw (ap (λ (x : Unit {0} × Store). x.1) v) (grown_same sound bits (insert_nonzero s bits type value sound e) k.entity b y.0 k.move type value y.1 (insert_right s bits type value sound e) kind ne));
      remove = λ bits type t e.
          remove_went s bits type sound e
          (λ j b k v. let y = target_means s.decl _ b k.target in
          rw (ap (λ (x : Unit {0} × Store). x.1) v) (shrunk_read sound bits (remove_nonzero s bits type sound e) k.entity b y.0 k.move type j k.held y.1));
      remove_keeps = λ bits type t e kind ne.
          remove_went s bits type sound e
          (λ j b k v. let y = target_means s.decl _ b k.target in
          rw (ap (λ (x : Unit {0} × Store). x.1) v) (shrunk_same sound bits (remove_nonzero s bits type sound e) k.entity b y.0 k.move type j k.held y.1 kind ne));
    }
