-- The contract determines the result, the head and the tables that are left: no second result fits. One instance a function, under its name.
-- Assumes nothing.
use Prim.Native.Nat.{ℕ}
use mathlib.Core.Path.{◌≡◌, ap}
use mathlib.Core.List.{List}
use Rattle.std.specs.Prelude.{Result}
use Rattle.refusal.specs.Table.{Did}
use Rattle.refusal.specs.Laws.{sole}
use Rattle.refusal.specs.declared.Refusal.{Refusal}
use Rattle.handle.specs.Bits.{handle_of}
use Rattle.handle.specs.RoundTrip.{tells}
use Rattle.handle.specs.declared.Handle.{Handle}
use Rattle.id_tables.specs.declared.head.Head.{Head}
use Rattle.id_tables.specs.Ids.{ids_of}
use Rattle.row_step.specs.Tables.{Rows}
use Rattle.store_tables.specs.Store.{Store, store_of}
use Rattle.store_spawn.specs.Spawn.{spawning}

-- the store that is left, with this head and these tables
abbrev left : Store → Head → List ℕ → List ℕ → List ℕ → Rows → Store
left s h g a x w = store_of s.decl (ids_of h g a x s.ids.pending) w s.words

pub spawn : (s : Store) (archetype : ℕ) (run : List ℕ) (r r' : Result Handle Refusal) (h h' : Head) (g a x g' a' x' : List ℕ) (w w' : Rows)
    → Did (spawning s archetype run) s (handle_of r) (left s h g a x w) → Did (spawning s archetype run) s (handle_of r') (left s h' g' a' x' w')
    → (r ≡ r') × (h ≡ h') × (g ≡ g') × (a ≡ a') × (x ≡ x') × (w ≡ w')
spawn s archetype run r r' h h' g a x g' a' x' w w' d e =
    let q = sole handle_of tells r r' d e in
    (q.0, ap (λ (t : Store). t.ids.head) q.1, ap (λ (t : Store). t.ids.generations) q.1, ap (λ (t : Store). t.ids.archetypes) q.1, ap (λ (t : Store). t.ids.indices) q.1, ap (λ (t : Store). t.rows) q.1)
