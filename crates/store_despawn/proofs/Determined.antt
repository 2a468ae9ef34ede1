-- The contract determines the result, the head and the tables that are left: no second result fits. One instance a function, under its name.
-- Assumes nothing.
use Prim.Native.Nat.{ℕ}
use mathlib.Core.Path.{◌≡◌, ap}
use mathlib.Core.List.{List}
use Rattle.std.specs.Prelude.{Result}
use Rattle.refusal.specs.Table.{Did, answer_of}
use Rattle.refusal.specs.Laws.{sole}
use Rattle.refusal.specs.Distinct.{tells}
use Rattle.refusal.specs.declared.Refusal.{Refusal}
use Rattle.id_tables.specs.declared.head.Head.{Head}
use Rattle.id_tables.specs.Ids.{ids_of}
use Rattle.row_step.specs.Tables.{Rows}
use Rattle.store_tables.specs.Store.{Store, store_of}
use Rattle.store_despawn.specs.Despawn.{despawning}

-- the store that is left, with this head and these tables
abbrev left : Store → Head → List ℕ → List ℕ → List ℕ → List ℕ → Rows → Store
left s h g a x p w = store_of s.decl (ids_of h g a x p) w s.words

pub despawn : (s : Store) (bits : ℕ) (r r' : Result (Unit {0}) Refusal) (h h' : Head) (g a x p g' a' x' p' : List ℕ) (w w' : Rows)
    → Did (despawning s bits) s (answer_of r) (left s h g a x p w) → Did (despawning s bits) s (answer_of r') (left s h' g' a' x' p' w')
    → (r ≡ r') × (h ≡ h') × (g ≡ g') × (a ≡ a') × (x ≡ x') × (p ≡ p') × (w ≡ w')
despawn s bits r r' h h' g a x p g' a' x' p' w w' d e =
    let q = sole answer_of tells r r' d e in
    (q.0, ap (λ (t : Store). t.ids.head) q.1, ap (λ (t : Store). t.ids.generations) q.1, ap (λ (t : Store). t.ids.archetypes) q.1, ap (λ (t : Store). t.ids.indices) q.1, ap (λ (t : Store). t.ids.pending) q.1, ap (λ (t : Store). t.rows) q.1)
