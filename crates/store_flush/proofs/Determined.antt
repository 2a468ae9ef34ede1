-- The contracts determine the results, the head and the tables that are left: no second result fits. One instance a function, under its name.
-- Assumes nothing.
use Prim.{Unit}
use Prim.Native.Nat.{ℕ}
use mathlib.Core.Path.{◌≡◌, ap}
use mathlib.Core.List.{List}
use Rattle.std.specs.Prelude.{Result}
use Rattle.refusal.specs.Table.{answer_of, Did}
use Rattle.refusal.specs.Laws.{sole}
use Rattle.refusal.specs.Distinct.{tells}
use Rattle.refusal.specs.declared.Refusal.{Refusal}
use Rattle.id_tables.specs.declared.head.Head.{Head}
use Rattle.id_tables.specs.Ids.{ids_of}
use Rattle.row_step.specs.Tables.{tables_of}
use Rattle.store_tables.specs.Store.{Store, store_of}
use Rattle.store_flush.specs.Flush.{flushing}
use Rattle.store_flush.specs.Clear.{clearing}

module _ (s : Store) where
  -- the store that an answer leaves, with this head and these tables
  abbrev left : Head → List ℕ → List ℕ → List ℕ → List ℕ → List ℕ → Store
  left h g a x numbers counts = store_of s.decl (ids_of h g a x s.ids.pending) (tables_of numbers counts s.rows.bytes) s.words

  pub flush : (r r' : Result (Unit {0}) Refusal) (h : Head) (g a x n c : List ℕ) (h' : Head) (g' a' x' n' c' : List ℕ)
      → Did (flushing s) s (answer_of r) (left h g a x n c) → Did (flushing s) s (answer_of r') (left h' g' a' x' n' c')
      → (r ≡ r') × (h ≡ h') × (g ≡ g') × (a ≡ a') × (x ≡ x') × (n ≡ n') × (c ≡ c')
  flush r r' h g a x n c h' g' a' x' n' c' d e =
      let q = sole answer_of tells r r' d e in
      (q.0, ap (λ (t : Store). t.ids.head) q.1, ap (λ (t : Store). t.ids.generations) q.1, ap (λ (t : Store). t.ids.archetypes) q.1, ap (λ (t : Store). t.ids.indices) q.1, ap (λ (t : Store). t.rows.numbers) q.1, ap (λ (t : Store). t.rows.counts) q.1)

  -- only the head and the row counts
  abbrev counted : Head → List ℕ → Store
  counted h c = left h s.ids.generations s.ids.archetypes s.ids.indices s.rows.numbers c

  pub clear : (r r' : Result (Unit {0}) Refusal) (h h' : Head) (c c' : List ℕ) → Did (clearing s) s (answer_of r) (counted h c) → Did (clearing s) s (answer_of r') (counted h' c')
      → (r ≡ r') × (h ≡ h') × (c ≡ c')
  clear r r' h h' c c' d e =
      let q = sole answer_of tells r r' d e in
      (q.0, ap (λ (t : Store). t.ids.head) q.1, ap (λ (t : Store). t.rows.counts) q.1)
