-- A call that changes nothing of the id tables but their head, which has crossed.
-- Assumes nothing.
use Rattle.std.specs.Prelude.{ℕ, ◌≡◌, List}
use Rattle.std.proofs.Common.{sym, ap}
use Rattle.refusal.specs.Table.{Answer, Did, left_of}
use Rattle.id_tables.specs.declared.head.Head.{Head}
use Rattle.id_tables.specs.Ids.{Ids, ids_of}
use Rattle.id_tables.proofs.Heads.{HeadOnly}
use Rattle.crossing.specs.Answers.{Told, Crossed, Passed, code_of}

pub crossed_headed : {A : Type 0} {rule : Answer (A × Ids)} {lent left : Ids} {said : Answer A} {code : ℕ} {h : Head} {values : A → List ℕ} {out : List ℕ}
    → HeadOnly lent (left_of rule lent) → Did rule lent said left → h ≡ left.head → Told values said code out
    → Crossed values rule lent code out (ids_of h lent.generations lent.archetypes lent.indices lent.pending)
crossed_headed only d e t = record { told = rw (← d.answer) t; leaves = rw (e, d.leaves) (sym only) }

pub passed_headed : {A : Type 0} {rule : Answer (A × Ids)} {lent left : Ids} {said : Answer A} {code : ℕ} {h : Head}
    → HeadOnly lent (left_of rule lent) → Did rule lent said left → h ≡ left.head → code ≡ code_of said
    → Passed rule lent code (ids_of h lent.generations lent.archetypes lent.indices lent.pending)
passed_headed only d e c = record { code_is = rw (← d.answer) c; leaves = rw (e, d.leaves) (sym only) }

-- and where an output of handles is lent too
pub passed_headed_out : {A : Type 0} {rule : Answer (A × (Ids × List ℕ))} {lent left : Ids} {o o' : List ℕ} {said : Answer A} {code : ℕ} {h : Head}
    → HeadOnly lent (left_of rule (lent, o)).0 → Did rule (lent, o) said (left, o') → h ≡ left.head → code ≡ code_of said
    → Passed rule (lent, o) code (ids_of h lent.generations lent.archetypes lent.indices lent.pending, o')
passed_headed_out {rule = rule} {lent = lent} {left = left} {o = o} {o' = o'} {h = h} only d e c =
    let first : left ≡ (left_of rule (lent, o)).0 = ap (λ (t : Ids × List ℕ). t.0) d.leaves in
    let second : o' ≡ (left_of rule (lent, o)).1 = ap (λ (t : Ids × List ℕ). t.1) d.leaves in
    let p : ids_of h lent.generations lent.archetypes lent.indices lent.pending ≡ (left_of rule (lent, o)).0 = rw (e, first) (sym only) in
    record { code_is = rw (← d.answer) c; leaves = λ i. (p i, second i) }
