-- The contracts determine the number that a call answers, its four numbers and all that it leaves: no second result fits. One instance a function, under its name.
-- Assumes nothing.
use Prim.Native.Nat.{ℕ}
use mathlib.Core.Path.{◌≡◌, ap}
use mathlib.Core.List.{List}
use Rattle.refusal.specs.Table.{Answer}
use Rattle.id_tables.specs.Ids.{ids_of}
use Rattle.decl.specs.Decl.{Decl}
use Rattle.row_step.specs.Tables.{Rows}
use Rattle.store_tables.specs.Store.{Store, store_of}
use Rattle.store_spawn.specs.Spawn.{spawning}
use Rattle.store_despawn.specs.Despawn.{despawning}
use Rattle.crossing.specs.Words.{head_of}
use Rattle.crossing.specs.Answers.{Crossed, Passed, number_four}
use Rattle.crossing.proofs.Sole.{Four, heads_one, crossed_one, passed_one}

-- one store for what is lent, with a head that crosses
module _ (d : Decl) (b : List ℕ) (ws ws' g a x p g' a' x' p' : List ℕ) (w w' : Rows) (f : Four ws) (f' : Four ws') where
  abbrev pub Same : Type 0
  Same = (ws ≡ ws') × (g ≡ g') × (a ≡ a') × (x ≡ x') × (p ≡ p') × (w ≡ w')

  pub same : store_of d (ids_of (head_of ws) g a x p) w b ≡ store_of d (ids_of (head_of ws') g' a' x' p') w' b → Same
  same e =
      (heads_one f f' (ap (λ (t : Store). t.ids.head) e), ap (λ (t : Store). t.ids.generations) e, ap (λ (t : Store). t.ids.archetypes) e, ap (λ (t : Store). t.ids.indices) e, ap (λ (t : Store). t.ids.pending) e, ap (λ (t : Store). t.rows) e)

abbrev pub CrossedStore : {A : Type 0} → (A → List ℕ) → Answer (A × Store) → Store → Type 0
CrossedStore values rule s =
    (c c' : ℕ) (o o' ws ws' g a x p g' a' x' p' : List ℕ) (w w' : Rows) (f : Four ws) (f' : Four ws')
    → Crossed values rule s c o (store_of s.decl (ids_of (head_of ws) g a x p) w s.words) → Crossed values rule s c' o' (store_of s.decl (ids_of (head_of ws') g' a' x' p') w' s.words)
    → (c ≡ c') × (o ≡ o') × Same s.decl s.words ws ws' g a x p g' a' x' p' w w' f f'

pub crossed_store_one : {A : Type 0} (values : A → List ℕ) (rule : Answer (A × Store)) (s : Store) → CrossedStore values rule s
crossed_store_one values rule s c c' o o' ws ws' g a x p g' a' x' p' w w' f f' d e =
    let q = crossed_one d e in (q.0, q.1, same s.decl s.words ws ws' g a x p g' a' x' p' w w' f f' q.2)

abbrev pub PassedStore : {A : Type 0} → Answer (A × Store) → Store → Type 0
PassedStore rule s =
    (c c' : ℕ) (ws ws' g a x p g' a' x' p' : List ℕ) (w w' : Rows) (f : Four ws) (f' : Four ws')
    → Passed rule s c (store_of s.decl (ids_of (head_of ws) g a x p) w s.words) → Passed rule s c' (store_of s.decl (ids_of (head_of ws') g' a' x' p') w' s.words)
    → (c ≡ c') × Same s.decl s.words ws ws' g a x p g' a' x' p' w w' f f'

pub passed_store_one : {A : Type 0} (rule : Answer (A × Store)) (s : Store) → PassedStore rule s
passed_store_one rule s c c' ws ws' g a x p g' a' x' p' w w' f f' d e =
    let q = passed_one d e in (q.0, same s.decl s.words ws ws' g a x p g' a' x' p' w w' f f' q.1)

pub verdict_store_spawn : (s : Store) (archetype : ℕ) (run : List ℕ) → CrossedStore number_four (spawning s archetype run) s
verdict_store_spawn s archetype run = crossed_store_one number_four (spawning s archetype run) s

pub verdict_store_despawn : (s : Store) (bits : ℕ) → PassedStore (despawning s bits) s
verdict_store_despawn s bits = passed_store_one (despawning s bits) s
