-- What spawn grants and leaves, for callers that do not open its rule.
-- Assumes nothing.
use Prim.Native.Nat.{ℕ, ◌<◌, ◌≤◌}
use native.Mathlib.Omega.{arith}
use mathlib.Core.Path.{◌≡◌}
use mathlib.Core.Bool.{true, false}
use borrow.Author.Tests.{lt-ltb, le-ltb, lt-leb, leb-false, ltb-false, not-false}
use Rattle.refusal.specs.Table.{◌or_else◌}
use Rattle.refusal.specs.Laws.{none_holds}
use Rattle.handle.specs.Bits.{place_of}
use Rattle.borrow_word.specs.Slice.{any_held}
use Rattle.id_tables.specs.Head.{flushed}
use Rattle.id_tables.specs.Ids.{room}
use Rattle.id_tables.proofs.Meaning.{undamaged}
use Rattle.ids.proofs.Passing.{AllocOk}
use Rattle.decl.specs.Decl.{archetypes, rows_of}
use Rattle.row_step.specs.Tables.{count_of}
use Rattle.store_tables.specs.Store.{Store}
use Rattle.store_tables.specs.Kept.{Entered}
use Rattle.store_spawn.specs.Spawn.{next_damaged, spawn_rules, Spawnable}

-- what passing the tests of a spawn gives, beyond the first
pub record SpawnOk (s : Store) (a : ℕ) : Type 0 where
  pub is_flushed : flushed s.ids.head ≡ true
  pub archetype_in : a < archetypes s.decl
  pub no_word : any_held s.words ≡ false
  pub has_room : 1 ≤ room s.ids
  pub row_unused : count_of s.rows a < rows_of s.decl a
  pub next_good : next_damaged s.ids ≡ false

module _ (s : Store) (a : ℕ) where
  pub spawn_ok : Spawnable s a → SpawnOk s a
  unfolding spawn_rules
  spawn_ok e =
      let p = none_holds _ e in
      record {
        is_flushed = not-false _ p.0;
        archetype_in = leb-false _ _ p.1.0;
        no_word = p.1.1.0;
        has_room = ltb-false _ _ p.1.1.1.0;
        row_unused = leb-false _ _ p.1.1.1.1.0;
        next_good = p.1.1.1.1.1.0;
      }

  pub ok_spawn : SpawnOk s a → Spawnable s a
  unfolding spawn_rules ◌or_else◌
  ok_spawn k = rw (k.is_flushed, lt-leb _ _ k.archetype_in, k.no_word, le-ltb (room s.ids) 1 k.has_room, lt-leb _ _ k.row_unused, k.next_good)

  -- the id layer grants the number that row
  pub can_alloc : Entered s → SpawnOk s a → AllocOk s.ids (place_of a (count_of s.rows a))
  can_alloc e k =
      record {
        ok = e.ids;
        is_flushed = k.is_flushed;
        index_in = omega (arith, k.row_unused, e.rows.tabled.kept.declared.shaped.rows_in a);
        has_room = k.has_room;
        last_good = λ h. undamaged _ _ _ _ (simp (lt-ltb 0 s.ids.head.pending h) at k.next_good);
      }
