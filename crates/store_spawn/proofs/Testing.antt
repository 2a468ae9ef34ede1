-- The ways through the tests of a spawn, over plain values.
-- Assumes nothing.
use Prim.{tt}
use Prim.Native.Nat.{ℕ, ◌<◌, ◌≤◌}
use native.Mathlib.Omega.{arith}
use native.Mathlib.Nat.{pos_of_ne-zero}
use mathlib.Core.Path.{◌≡◌, refl, sym, ◌∙◌}
use mathlib.Core.Bool.{Bool, true, false, ◌&&◌}
use mathlib.Core.List.{List}
use lib.Dec.{ltb, leb}
use borrow.Author.Tests.{lt-ltb, le-ltb, le-leb, lt-leb, leb-true, leb-false}
use Rattle.refusal.specs.Table.{granted, refused, ◌or_else◌, passing}
use Rattle.borrow_word.specs.Slice.{any_held}
use Rattle.id_tables.specs.declared.head.Head.{Head}
use Rattle.id_tables.specs.Head.{flushed, room_in}
use Rattle.id_tables.specs.Ids.{room, damaged_in}
use Rattle.id_tables.proofs.Meaning.{flushed_free, flushed_new}
use Rattle.decl.specs.Decl.{archetypes, rows_of}
use Rattle.row_step.specs.Tables.{count_of}
use Rattle.store_tables.specs.Store.{Store}
use Rattle.store_spawn.specs.Spawn.{next_damaged, spawn_rules}

-- whether a number is left
module _ (h : Head) (c : ℕ) (f : flushed h ≡ true) where
  pub some_pending : (h.pending ≡ 0 → ⊥) → false ≡ ltb (room_in h c) 1
  some_pending z = sym (le-ltb (room_in h c) 1 (omega (arith, flushed_free h f, pos_of_ne-zero z)))

  pub none_pending : h.used ≤ c → h.pending ≡ 0 → leb c h.used ≡ ltb (room_in h c) 1
  none_pending u z = by (leb c h.used) refl
    where
      by : (b : Bool) → leb c h.used ≡ b → leb c h.used ≡ ltb (room_in h c) 1
      by true e = e ∙ sym (lt-ltb (room_in h c) 1 (omega (arith, flushed_free h f, flushed_new h f, leb-true c h.used e)))
      by false e = e ∙ sym (le-ltb (room_in h c) 1 (omega (arith, flushed_free h f, flushed_new h f, leb-false c h.used e)))

-- whether the next number is damaged
pub new_next : (count : ℕ) (b : Bool) → count ≡ 0 → false ≡ (ltb 0 count && b)
new_next count b z = rw (le-ltb 0 count (omega arith))

pub last_next : (used : ℕ) (g x : List ℕ) (count n m : ℕ) (r : Bool) → (count ≡ 0 → ⊥) → r ≡ damaged_in used g x n → n ≡ m → r ≡ (ltb 0 count && damaged_in used g x m)
last_next used g x count n m r z e q = rw (lt-ltb 0 count (pos_of_ne-zero z), ← q) e

-- each test as the code has seen it
module _ (s : Store) (a : ℕ) where
  pub unflushed : false ≡ flushed s.ids.head → refused 3 ≡ passing (spawn_rules s a)
  unfolding spawn_rules ◌or_else◌
  unflushed t = rw (← t)

  module _ (f : true ≡ flushed s.ids.head) where
    pub undeclared : archetypes s.decl ≤ a → refused 6 ≡ passing (spawn_rules s a)
    unfolding spawn_rules ◌or_else◌
    undeclared t = rw (← f, le-leb _ _ t)

    module _ (h : a < archetypes s.decl) where
      pub held : true ≡ any_held s.words → refused 8 ≡ passing (spawn_rules s a)
      unfolding spawn_rules ◌or_else◌
      held t = rw (← f, lt-leb _ _ h, ← t)

      module _ (w : false ≡ any_held s.words) where
        pub no_number : true ≡ ltb (room s.ids) 1 → refused 4 ≡ passing (spawn_rules s a)
        unfolding spawn_rules ◌or_else◌
        no_number t = rw (← f, lt-leb _ _ h, ← w, ← t)

        module _ (m : false ≡ ltb (room s.ids) 1) (rows count : ℕ) (p : rows ≡ rows_of s.decl a) (q : count ≡ count_of s.rows a) where
          pub no_row : rows ≤ count → refused 4 ≡ passing (spawn_rules s a)
          unfolding spawn_rules ◌or_else◌
          no_row t = rw (← f, lt-leb _ _ h, ← w, ← m, ← p, ← q, le-leb _ _ t)

          module _ (l : count < rows) where
            pub next_bad : true ≡ next_damaged s.ids → refused 1 ≡ passing (spawn_rules s a)
            unfolding spawn_rules ◌or_else◌
            next_bad t = rw (← f, lt-leb _ _ h, ← w, ← m, ← p, ← q, lt-leb _ _ l, ← t)

            pub passes : false ≡ next_damaged s.ids → granted tt ≡ passing (spawn_rules s a)
            unfolding spawn_rules ◌or_else◌
            passes t = rw (← f, lt-leb _ _ h, ← w, ← m, ← p, ← q, lt-leb _ _ l, ← t)
