-- The contract determines the result and the tables that are left: no second result fits. One instance a function, under its name.
-- Assumes nothing.
use Prim.{Unit}
use Prim.Native.Nat.{ℕ}
use mathlib.Core.Path.{◌≡◌, ap}
use mathlib.Core.List.{List}
use Rattle.std.specs.Prelude.{Result}
use Rattle.refusal.specs.Table.{answer_of, Did}
use Rattle.refusal.specs.Laws.{sole}
use Rattle.refusal.specs.Distinct.{tells}
use Rattle.refusal.specs.declared.Refusal.{Refusal}
use Rattle.id_tables.specs.Ids.{ids_of}
use Rattle.row_step.specs.Tables.{Rows}
use Rattle.store_tables.specs.Store.{Store, store_of}
use Rattle.store_insert.specs.Insert.{inserting}

-- the store with these tables: the head, generations, pending list and words stay
abbrev left : Store → List ℕ → List ℕ → Rows → Store
left s a x w = store_of s.decl (ids_of s.ids.head s.ids.generations a x s.ids.pending) w s.words

pub insert : (s : Store) (bits t : ℕ) (value : List ℕ) (r r' : Result (Unit {0}) Refusal) (a x a' x' : List ℕ) (w w' : Rows)
    → Did (inserting s bits t value) s (answer_of r) (left s a x w) → Did (inserting s bits t value) s (answer_of r') (left s a' x' w')
    → (r ≡ r') × (a ≡ a') × (x ≡ x') × (w ≡ w')
insert s bits t value r r' a x a' x' w w' d e =
    let q = sole answer_of tells r r' d e in
    (q.0, ap (λ (z : Store). z.ids.archetypes) q.1, ap (λ (z : Store). z.ids.indices) q.1, ap (λ (z : Store). z.rows) q.1)
