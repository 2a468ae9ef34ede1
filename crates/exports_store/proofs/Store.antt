-- A store call whose head and answer have crossed.
-- Assumes nothing.
use Prim.Native.Nat.{ℕ}
use mathlib.Core.Path.{◌≡◌}
use mathlib.Core.List.{List}
use Rattle.refusal.specs.Table.{Answer, Did}
use Rattle.id_tables.specs.declared.head.Head.{Head}
use Rattle.id_tables.specs.Ids.{ids_of}
use Rattle.decl.specs.Decl.{Decl}
use Rattle.row_step.specs.Tables.{Rows}
use Rattle.store_tables.specs.Store.{Store, store_of}
use Rattle.crossing.specs.Answers.{Told, Crossed, Passed, code_of}
use Rattle.crossing.proofs.Telling.{crossed, passed}

module _ {A : Type 0} {rule : Answer (A × Store)} {lent : Store} {said : Answer A} {code : ℕ} {d : Decl} {h h' : Head} {g a x p : List ℕ} {w : Rows} {b : List ℕ} where
  pub crossed_store : {values : A → List ℕ} {out : List ℕ} → Did rule lent said (store_of d (ids_of h g a x p) w b) → Told values said code out → h' ≡ h → Crossed values rule lent code out (store_of d (ids_of h' g a x p) w b)
  crossed_store did t e = rw e (crossed did t)

  pub passed_store : Did rule lent said (store_of d (ids_of h g a x p) w b) → code ≡ code_of said → h' ≡ h → Passed rule lent code (store_of d (ids_of h' g a x p) w b)
  passed_store did c e = rw e (passed did c)
