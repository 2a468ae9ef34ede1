-- The examples of document 01 that are to be proved: what the rules say, entry by entry, against what the document says.
use Prim.{Unit}
use Rattle.std.specs.Prelude.{ℕ, ◌-◌, ◌^◌, Bool, true, false, ◌≡◌, refl, List, [], ◌∷◌, ◌++◌, ℤ, pos, negsuc, get_or, take, replicate}
use Rattle.std.proofs.Math.Option.{Option, none, some}
use Rattle.refusal.specs.Table.{Answer, granted, refused, value_of, left_of, ◌or_else◌}
use Rattle.handle.specs.Bits.{MAX, bits_of, place_of, from_bits, new_handle}
use Rattle.handle.specs.OnBits.{on_bits}
use Rattle.handle.specs.declared.Place.{Place}
use Rattle.borrow_word.specs.Word.{shared_word, unique_word}
use Rattle.id_tables.specs.declared.head.Head.{Head}
use Rattle.id_tables.specs.Head.{free_of, new_of, flushed, flushed_head, head_rules}
use Rattle.id_tables.specs.Ids.{Ids, ids_of, capacity_rules, length_rules, entry, damaged_in, any_damaged_in, live_in}
use Rattle.id_tables.specs.Lookup.{any_is, is_reserved_old, reserved_new, is_contained, containing, place_got, getting}
use Rattle.id_tables.specs.Runs.{up_from}
use Rattle.ids.specs.Reserve.{reserving}
use Rattle.ids.specs.Alloc.{alloc_rules, allocating}
use Rattle.ids.specs.AllocAt.{position_of, chosen_rules, alloc_at, allocating_at}
use Rattle.ids.specs.Free.{freed, freeing}
use Rattle.id_batches.specs.Seating.{set_each}
use Rattle.id_batches.specs.Reserve.{old_handles, new_handles, entities_reserved}
use Rattle.id_batches.specs.Reserve.{reserving as reserving_many}
use Rattle.id_batches.specs.Flush.{reserved_placed, flushing}
use Rattle.id_batches.specs.AllocMany.{many_alloced, allocating_many}
use Rattle.decl.specs.Decl.{Decl, decl_of, first_row, first_column, types_of, sizes_of}
use Rattle.decl.specs.Lists.{sum, first_of, part_of, any_above, rising, same, any_below, any_pair}
use Rattle.decl.specs.Rules.{shape_rules, two_sizes, column_rules, decl_rules}
use Rattle.decl.specs.Places.{row_width, base_of}
use Rattle.cells.specs.Cell.{cell, put, copies, copied}
use Rattle.cells.specs.Line.{carried}
use Rattle.row_step.specs.Tables.{Rows, tables_of, removed, moved_by}
use Rattle.column_entry.specs.Entry.{lengths_for, table_rules, is_over, count_rules, entry_rules, row_rules}
use Rattle.column_entry.specs.Entry.{length_rules as rowLengthRules}
use Rattle.columns.specs.Calls.{held_rules, removed_in}

-- number v generation
infix 70 ◌v◌
abbrev ◌v◌ : ℕ → ℕ → ℕ
number v generation = bits_of generation number

-- ---- what calls say and tables hold, as numbers

abbrev Said : Type 0
Said = Answer (List ℕ)

abbrev one : Answer ℕ → Said
one (granted x) = granted (x ∷ [])
one (refused n) = refused n

abbrev yes : Answer Bool → Said
yes (granted true) = granted (1 ∷ [])
yes (granted false) = granted (0 ∷ [])
yes (refused n) = refused n

abbrev place : Answer Place → Said
place (granted p) = granted (p.archetype ∷ p.index.0 ∷ [])
place (refused n) = refused n

abbrev moved : Answer (Option ℕ) → Said
moved (granted none) = granted []
moved (granted (some n)) = granted (n ∷ [])
moved (refused n) = refused n

-- that a call is granted
abbrev done : {A : Type 0} → Answer A → Said
done (granted x) = granted []
done (refused n) = refused n

-- used, live, and the pending entries
abbrev counted : Ids → Said
counted s = granted (s.head.used ∷ s.head.live ∷ take s.head.pending s.pending)

-- all that the tables hold
abbrev whole : Ids → Said
whole s =
    granted
    (s.head.used ∷ s.head.pending ∷ free_of s.head.cursor ∷ new_of s.head.cursor ∷ s.head.live
    ∷ (s.generations ++ (s.archetypes ++ (s.indices ++ s.pending))))

-- the indices of these numbers
abbrev indices : Ids → List ℕ → List ℕ
indices s [] = []
indices s (n ∷ ns) = get_or s.indices n 0 ∷ indices s ns

-- ---- calls, and the tables between them, at capacity 16

abbrev alloc : Ids → ℕ → Answer (ℕ × Ids)
alloc s row = allocating s (place_of 0 row)

abbrev at : Ids → ℕ → Answer (Option Place × Ids)
at s handle = allocating_at s handle (place_of 0 0)

-- a batch: what it writes into an output of n places, and the tables that it leaves
abbrev written : Answer (Unit {0} × (Ids × List ℕ)) → Answer (List ℕ × Ids)
written (granted x) = granted (x.1.1, x.1.0)
written (refused n) = refused n

abbrev batch : Ids → ℕ → Answer (List ℕ × Ids)
batch s n = written (reserving_many s n (replicate n 0))

abbrev flush : Ids → Ids
flush s = left_of (flushing s 0 0) s

-- tables of these generations, indices and pending entries, in archetype 0
abbrev tables : Head → List ℕ → List ℕ → List ℕ → Ids
tables h g x p = ids_of h g (replicate 16 0) x p

abbrev empty : ℕ → Ids
empty capacity = ids_of (flushed_head 0 0 0) (replicate capacity 0) (replicate capacity 0) (replicate capacity 0) (replicate capacity 0)

-- K3: one, two and three numbers; then 1 is free, then 0 too; then 0 and 1 are taken again
one_used : Ids
one_used = tables (flushed_head 1 0 1) (1 ∷ replicate 15 0) (0 ∷ replicate 15 0) (replicate 16 0)

two_used : Ids
two_used = tables (flushed_head 2 0 2) (1 ∷ 1 ∷ replicate 14 0) (0 ∷ 1 ∷ replicate 14 0) (replicate 16 0)

three_used : Ids
three_used = tables (flushed_head 3 0 3) (1 ∷ 1 ∷ 1 ∷ replicate 13 0) (0 ∷ 1 ∷ 2 ∷ replicate 13 0) (replicate 16 0)

one_free : Ids
one_free = tables (flushed_head 3 1 2) (1 ∷ 2 ∷ 1 ∷ replicate 13 0) (0 ∷ MAX ∷ 2 ∷ replicate 13 0) (1 ∷ replicate 15 0)

two_free : Ids
two_free = tables (flushed_head 3 2 1) (2 ∷ 2 ∷ 1 ∷ replicate 13 0) (MAX ∷ MAX ∷ 2 ∷ replicate 13 0) (1 ∷ 0 ∷ replicate 14 0)

one_again : Ids
one_again = tables (flushed_head 3 1 2) (2 ∷ 2 ∷ 1 ∷ replicate 13 0) (0 ∷ MAX ∷ 2 ∷ replicate 13 0) (1 ∷ 0 ∷ replicate 14 0)

two_again : Ids
two_again = tables (flushed_head 3 0 3) (2 ∷ 2 ∷ 1 ∷ replicate 13 0) (0 ∷ 1 ∷ 2 ∷ replicate 13 0) (1 ∷ 0 ∷ replicate 14 0)

-- K4: from two-free, one reserved, and both
abbrev waiting_at : ℕ → Ids
waiting_at cursor =
    tables (record { used = 3; pending = 2; cursor = pos cursor; live = 1 }) (2 ∷ 2 ∷ 1 ∷ replicate 13 0) (MAX ∷ MAX ∷ 2 ∷ replicate 13 0)
    (1 ∷ 0 ∷ replicate 14 0)

-- K5: used 6, pending 6; then 9 reserved
abbrev six_at : ℤ → Ids
six_at cursor =
    tables (record { used = 6; pending = 6; cursor = cursor; live = 0 }) (replicate 16 1) (replicate 16 MAX) (0 ∷ 1 ∷ 2 ∷ 3 ∷ 4 ∷ 5 ∷ replicate 10 0)

-- K7: one number at the last generation
last : Ids
last = tables (flushed_head 1 0 1) (MAX ∷ replicate 15 0) (replicate 16 0) (replicate 16 0)

-- K8: after 5v9 on empty tables
chosen : Ids
chosen = tables (flushed_head 6 5 1) (1 ∷ 1 ∷ 1 ∷ 1 ∷ 1 ∷ 9 ∷ replicate 10 0) (MAX ∷ MAX ∷ MAX ∷ MAX ∷ MAX ∷ 0 ∷ replicate 10 0) (0 ∷ 1 ∷ 2 ∷ 3 ∷ 4 ∷ replicate 11 0)

-- K9: pending [4, 1, 3]; then one taken
pendings : Ids
pendings = tables (flushed_head 5 3 2) (replicate 16 1) (0 ∷ MAX ∷ 1 ∷ MAX ∷ MAX ∷ replicate 11 0) (4 ∷ 1 ∷ 3 ∷ replicate 13 0)

one_taken : Ids
one_taken = tables (flushed_head 5 2 3) (replicate 16 1) (0 ∷ MAX ∷ 1 ∷ 7 ∷ MAX ∷ replicate 11 0) (4 ∷ 1 ∷ 3 ∷ replicate 13 0)

-- K10: an archetype of four rows and one column of a byte, three rows used
rows : Decl
rows = decl_of (0 ∷ 4 ∷ []) (0 ∷ 1 ∷ []) (7 ∷ []) (1 ∷ [])

held : Rows
held = tables_of (10 ∷ 11 ∷ 12 ∷ 0 ∷ []) (0 ∷ 3 ∷ []) (20 ∷ 21 ∷ 22 ∷ 0 ∷ [])

abbrev remove : ℕ → Answer (Option ℕ × Rows)
remove r = removed_in rows held 1 r

abbrev used : Rows → Said
used w = granted (take (get_or w.counts 1 0) w.numbers)

-- K12: used 3, none pending, two reserved
waiting : Ids
waiting = tables (record { used = 3; pending = 0; cursor = negsuc 1; live = 3 }) (replicate 16 1) (0 ∷ 1 ∷ 2 ∷ replicate 13 0) (replicate 16 0)

-- what a call answers, and what the tables are that it leaves
abbrev call : Answer (ℕ × Ids) → Ids → List Said → List Said
call a s rest = one (value_of a) ∷ whole (left_of a s) ∷ rest

abbrev left : {A : Type 0} → Answer (A × Ids) → Ids → Said
left a s = whole (left_of a s)

-- ---- what the rules say

pub said : List Said
said =
    one (new_handle 7 2)
    ∷ one (from_bits 4294967295)
    ∷ call (alloc (empty 16) 0) (empty 16)
    (call (alloc one_used 1) one_used
    (call (alloc two_used 2) two_used
    (left (freeing three_used (1 v 1)) three_used
    ∷ left (freeing one_free (0 v 1)) one_free
    ∷ call (alloc two_free 0) two_free
    (call (alloc one_again 1) one_again
    (one (value_of (alloc two_again 3))
    ∷ value_of (batch two_free 2)
    ∷ left (batch two_free 2) two_free
    ∷ call (reserving two_free) two_free
    (call (reserving (waiting_at 1)) (waiting_at 1)
    (granted (indices (flush (waiting_at 0)) (1 ∷ 0 ∷ []))
    ∷ value_of (batch (six_at (pos 6)) 9)
    ∷ left (batch (six_at (pos 6)) 9) (six_at (pos 6))
    ∷ granted (indices (flush (six_at (negsuc 2))) (6 ∷ 7 ∷ 8 ∷ 0 ∷ 1 ∷ 2 ∷ 3 ∷ 4 ∷ 5 ∷ []))
    ∷ counted (flush (six_at (negsuc 2)))
    ∷ done (batch (six_at (pos 6)) 16)
    ∷ done (batch (six_at (pos 6)) 17)
    ∷ value_of (batch two_free 0)
    ∷ left (batch two_free 0) two_free
    ∷ value_of (batch (empty 0) 0)
    ∷ granted (left_of (freeing last (0 v MAX)) last).generations
    ∷ left (at (empty 16) (5 v 9)) (empty 16)
    ∷ counted (left_of (at chosen (2 v 1)) chosen)
    ∷ done (at chosen (15 v 1))
    ∷ done (at chosen (16 v 1))
    ∷ granted (indices (left_of (allocating_many pendings 2 0 7) pendings) (1 ∷ 3 ∷ []))
    ∷ counted (left_of (allocating_many pendings 2 0 7) pendings)
    ∷ call (alloc pendings 7) pendings
    (one (value_of (alloc one_taken 8))
    ∷ moved (value_of (remove 0))
    ∷ used (left_of (remove 0) held)
    ∷ moved (value_of (remove 2))
    ∷ one (shared_word (2 ^ 63 - 1))
    ∷ one (shared_word (2 ^ 63))
    ∷ one (unique_word 1)
    ∷ yes (containing waiting (4 v 1))
    ∷ yes (containing waiting (5 v 1))
    ∷ place (getting waiting (4 v 1))
    ∷ []))))))))

-- ---- what the document says

pub wanted : List Said
wanted =
    -- K1: 7v2 is 8,589,934,599
    granted (8589934599 ∷ [])
    -- K2: bits 4,294,967,295 give 5
    ∷ refused 5
    -- K3: alloc thrice: 0v1, 1v1, 2v1; free 1, then 0: pending [1, 0]; alloc: 0v2, 1v2, 3v1
    ∷ granted (0 v 1 ∷ [])
    ∷ whole one_used
    ∷ granted (1 v 1 ∷ [])
    ∷ whole two_used
    ∷ granted (2 v 1 ∷ [])
    ∷ whole three_used
    ∷ whole one_free
    ∷ whole two_free
    ∷ granted (0 v 2 ∷ [])
    ∷ whole one_again
    ∷ granted (1 v 2 ∷ [])
    ∷ whole two_again
    ∷ granted (3 v 1 ∷ [])
    -- K4: one batch of 2 gives 1v2, 0v2; two singles give 0v2, 1v2; either way flush places 1 first
    ∷ granted (1 v 2 ∷ 0 v 2 ∷ [])
    ∷ whole (waiting_at 0)
    ∷ granted (0 v 2 ∷ [])
    ∷ whole (waiting_at 1)
    ∷ granted (1 v 2 ∷ [])
    ∷ whole (waiting_at 0)
    ∷ granted (0 ∷ 1 ∷ [])
    -- K5: reserve 9: pending[0..6], then 6, 7, 8; cursor −3; flush places 6, 7, 8, then the six; live 9; 16 is granted, 17 gives 4
    ∷ granted (0 v 1 ∷ 1 v 1 ∷ 2 v 1 ∷ 3 v 1 ∷ 4 v 1 ∷ 5 v 1 ∷ 6 v 1 ∷ 7 v 1 ∷ 8 v 1 ∷ [])
    ∷ whole (six_at (negsuc 2))
    ∷ granted (0 ∷ 1 ∷ 2 ∷ 3 ∷ 4 ∷ 5 ∷ 6 ∷ 7 ∷ 8 ∷ [])
    ∷ granted (9 ∷ 9 ∷ [])
    ∷ granted []
    ∷ refused 4
    -- K6: reserve 0: no handle, no change, also at capacity 0
    ∷ granted []
    ∷ whole two_free
    ∷ granted []
    -- K7: free at generation MAX leaves 1
    ∷ granted (1 ∷ replicate 15 0)
    -- K8: alloc at 5v9 on empty: used 6, pending [0,1,2,3,4], live 1; then at 2v1: pending [0,1,4,3]; 15 fits, 16 gives 4
    ∷ whole chosen
    ∷ granted (6 ∷ 2 ∷ 0 ∷ 1 ∷ 4 ∷ 3 ∷ [])
    ∷ granted []
    ∷ refused 4
    -- K9: alloc many 2 from pending [4,1,3]: 1, 3, pending [4]; two allocs give 3, 1
    ∷ granted (7 ∷ 8 ∷ [])
    ∷ granted (5 ∷ 4 ∷ 4 ∷ [])
    ∷ granted (3 v 1 ∷ [])
    ∷ whole one_taken
    ∷ granted (1 v 1 ∷ [])
    -- K10: rows [10,11,12], remove row 0: answer 12, rows [12,11]; remove the last: none
    ∷ granted (12 ∷ [])
    ∷ granted (12 ∷ 11 ∷ [])
    ∷ granted []
    -- K11: word 2^63 − 1: shared gives 9; word 2^63: 7; word 1, unique: 8
    ∷ refused 9
    ∷ refused 7
    ∷ refused 8
    -- K12: 4v1 contained, 5v1 not; get 4v1 is (0, MAX)
    ∷ granted (1 ∷ [])
    ∷ granted (0 ∷ [])
    ∷ granted (0 ∷ MAX ∷ [])
    ∷ []

pub examples : said ≡ wanted
unfolding said wanted one_used two_used three_used one_free two_free one_again two_again last chosen pendings one_taken rows held waiting new_handle from_bits on_bits shared_word unique_word entry capacity_rules length_rules head_rules flushed damaged_in any_damaged_in live_in any_is is_reserved_old reserved_new is_contained containing place_got getting up_from reserving alloc_rules allocating position_of chosen_rules alloc_at allocating_at freed freeing set_each old_handles new_handles entities_reserved reserving_many reserved_placed flushing many_alloced allocating_many first_row first_column types_of sizes_of sum first_of part_of any_above rising same any_below any_pair shape_rules two_sizes column_rules decl_rules row_width base_of cell put copies copied carried removed moved_by table_rules is_over count_rules entry_rules row_rules rowLengthRules lengths_for held_rules removed_in ◌or_else◌
examples = refl
