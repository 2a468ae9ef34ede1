-- The ways through the rule of free, over plain values.
-- Assumes nothing.
use Prim.Native.Nat.{ℕ, ◌+◌, ◌-◌}
use mathlib.Core.Path.{◌≡◌}
use mathlib.Core.Bool.{true, false}
use mathlib.Core.List.{List}
use borrow.Author.Tests.{eq-eqb, ne_eqb}
use lib.ListN.{set}
use Rattle.refusal.specs.Table.{granted, refused, ◌or_else◌, Did}
use Rattle.refusal.specs.Laws.{grant, refuse}
use Rattle.handle.specs.Bits.{MAX}
use Rattle.handle.specs.declared.Place.{Place}
use Rattle.id_tables.specs.declared.head.Head.{Head}
use Rattle.id_tables.specs.Head.{flushed, flushed_head}
use Rattle.id_tables.specs.Ids.{Ids, ids_of, live, place_at}
use Rattle.ids.specs.Free.{next_generation, freed}

pub free_unflushed : (s : Ids) (g n : ℕ) → flushed s.head ≡ false → Did (freed s g n) s (refused 3) s
unfolding freed ◌or_else◌
free_unflushed s g n f = refuse (simp f)

-- the generation and the number, as the code has taken them from the handle
module _ (s : Ids) (g n g' n' : ℕ) (eg : g' ≡ g) (en : n' ≡ n) (f : flushed s.head ≡ true) where
  pub free_absent : live s g' n' ≡ false → Did (freed s g n) s (refused 2) s
  unfolding freed ◌or_else◌
  free_absent l = rw (← eg, ← en) (refuse (simp (f, l)))

  module _ (l : live s g' n' ≡ true) where
    pub free_none_live : s.head.live ≡ 0 → Did (freed s g n) s (refused 1) s
    unfolding freed ◌or_else◌
    free_none_live z = rw (← eg, ← en) (refuse (simp (f, l, eq-eqb _ _ z)))

    pub free_did : (old : Place) (next : ℕ) (left : Head) (generations archetypes indices pending : List ℕ)
        → (s.head.live ≡ 0 → ⊥) → old ≡ place_at s n' → next ≡ next_generation g'
        → (generations ≡ set s.generations n' next) × (archetypes ≡ set s.archetypes n' 0) × (indices ≡ set s.indices n' MAX)
        → pending ≡ set s.pending s.head.pending n' → left ≡ flushed_head s.head.used (s.head.pending + 1) (s.head.live - 1)
        → Did (freed s g n) s (granted old) (ids_of left generations archetypes indices pending)
    unfolding freed ◌or_else◌
    free_did old next left generations archetypes indices pending z o k w p h =
        rw (← eg, ← en, o, w.0, w.1, w.2, k, p, h) (grant (simp (f, l, ne_eqb _ _ z)))
