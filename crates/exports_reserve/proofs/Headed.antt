-- A store call that changes nothing but the head, which has crossed.
-- Assumes nothing.
use Rattle.std.specs.Prelude.{ℕ, ◌≡◌, List}
use Rattle.std.proofs.Common.{sym, ap}
use Rattle.refusal.specs.Table.{Answer, Did, left_of}
use Rattle.id_tables.specs.declared.head.Head.{Head}
use Rattle.id_tables.specs.Ids.{ids_of}
use Rattle.store_tables.specs.Store.{Store, with_ids}
use Rattle.store_reserve.proofs.Heads.{StoreHeadOnly}
use Rattle.crossing.specs.Answers.{Told, Crossed, Passed, code_of}

-- the store with this head
abbrev pub headed : Store → Head → Store
headed s h = with_ids s (ids_of h s.ids.generations s.ids.archetypes s.ids.indices s.ids.pending)

pub crossed_headed : {A : Type 0} {rule : Answer (A × Store)} {lent left : Store} {said : Answer A} {code : ℕ} {h : Head} {values : A → List ℕ} {out : List ℕ}
    → StoreHeadOnly lent (left_of rule lent) → Did rule lent said left → h ≡ left.ids.head → Told values said code out → Crossed values rule lent code out (headed lent h)
crossed_headed only d e t = record { told = rw (← d.answer) t; leaves = rw (e, d.leaves) (sym only) }

-- and where an output of handles is lent too
pub passed_headed_out : {A : Type 0} {rule : Answer (A × (Store × List ℕ))} {lent left : Store} {o o' : List ℕ} {said : Answer A} {code : ℕ} {h : Head}
    → StoreHeadOnly lent (left_of rule (lent, o)).0 → Did rule (lent, o) said (left, o') → h ≡ left.ids.head → code ≡ code_of said
    → Passed rule (lent, o) code (headed lent h, o')
passed_headed_out {rule = rule} {lent = lent} {left = left} {o = o} {o' = o'} {h = h} only d e c =
    let first : left ≡ (left_of rule (lent, o)).0 = ap (λ (t : Store × List ℕ). t.0) d.leaves in
    let second : o' ≡ (left_of rule (lent, o)).1 = ap (λ (t : Store × List ℕ). t.1) d.leaves in
    let p : headed lent h ≡ (left_of rule (lent, o)).0 = rw (e, first) (sym only) in
    record { code_is = rw (← d.answer) c; leaves = λ i. (p i, second i) }
