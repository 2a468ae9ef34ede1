-- What flush and clear refuse where the first tests pass and the entries that they use are whole: their own lines, and no 1.
-- Assumes nothing.
use Prim.{tt}
use mathlib.Core.Path.{◌≡◌, refl, ◌∙◌}
use Prim.Native.Nat.{◌+◌}
use mathlib.Core.Bool.{Bool, true, false}
use mathlib.Core.List.{[], ◌∷◌}
use lib.Dec.{ltb}
use Rattle.refusal.specs.Table.{◌when◌, Answer, granted, ◌or_else◌, ◌otherwise◌}
use Rattle.refusal.specs.Laws.{parts}
use Rattle.borrow_word.specs.Slice.{any_held}
use Rattle.id_tables.specs.Ids.{any_damaged}
use Rattle.id_tables.specs.Lookup.{reserved_old}
use Rattle.id_batches.specs.Flush.{reserved_count}
use Rattle.decl.specs.Decl.{rows_of}
use Rattle.row_step.specs.Tables.{count_of}
use Rattle.store_tables.specs.Store.{Store, entry}
use Rattle.store_tables.specs.Kept.{Entered}
use Rattle.store_tables.proofs.Passing.{entry_line}
use Rattle.store_flush.specs.Flush.{flush_rules, with_reserved, reserved_seated, flushing}
use Rattle.store_flush.specs.Clear.{emptied, clearing}

flush_lines : {A : Type 0} (b c d : Bool) (a : Answer A) → d ≡ false
    → (13 when false ∷ [] or_else (8 when b ∷ 4 when c ∷ 1 when d ∷ [] or_else a)) ≡ (8 when b ∷ 4 when c ∷ [] or_else a)
unfolding ◌or_else◌
flush_lines true c d a z = refl
flush_lines false true d a z = refl
flush_lines false false d a z = rw z

module _ (s : Store) (e : Entered s) where
  pub flushing_lines : any_damaged s.ids (reserved_old s.ids) ≡ false
      → flushing s
      ≡ (8 when any_held s.words
      ∷ 4 when ltb (rows_of s.decl 0) (count_of s.rows 0 + reserved_count s.ids)
      ∷ []
      otherwise (tt, with_reserved s))
  unfolding flushing reserved_seated flush_rules
  flushing_lines w =
      entry_line s e false _
      ∙ flush_lines (any_held s.words) (ltb (rows_of s.decl 0) (count_of s.rows 0 + reserved_count s.ids)) (any_damaged s.ids (reserved_old s.ids)) _ w

  pub clearing_lines : clearing s ≡ (8 when any_held s.words ∷ [] otherwise (tt, emptied s))
  unfolding clearing ◌or_else◌
  clearing_lines = parts (entry s false) (8 when any_held s.words ∷ []) (granted (tt, emptied s)) ∙ entry_line s e false _
