-- What insert grants and leaves, for callers that do not open its rule.
-- Assumes nothing.
use Prim.{Unit, tt}
use Prim.Native.Nat.{ℕ}
use mathlib.Core.Path.{◌≡◌, refl, ◌∙◌}
use mathlib.Core.Bool.{false}
use mathlib.Core.List.{List, [], ◌∷◌}
use mathlib.Core.Logic.{◌⊎◌, inl, inr}
use Rattle.std.proofs.Math.Option.{some}
use Rattle.std.specs.Prelude.{Option, Some, None}
use lib.ListN.{length}
use Rattle.refusal.specs.Table.{◌when◌, granted, ◌or_else◌, passing}
use Rattle.refusal.specs.Laws.{passed_all, none_holds, value_of_lem, past}
use Rattle.handle.specs.Bits.{generation_in, number_in}
use Rattle.handle.specs.OnBits.{on_rest, on_granted}
use Rattle.borrow_word.specs.Slice.{any_held}
use Rattle.decl.specs.Decl.{types_of}
use Rattle.decl.specs.Lookup.{column_of}
use Rattle.column_entry.specs.Entry.{wrong_size}
use Rattle.store_tables.specs.Store.{Store, entry}
use Rattle.store_tables.specs.Rows.{archetype_of, row_of}
use Rattle.store_tables.specs.Entities.{entity_rules}
use Rattle.store_tables.proofs.Entities.{EntityOk, entity_ok, ok_entity}
use Rattle.store_moves.specs.Target.{with_type, target_of}
use Rattle.store_moves.specs.Moves.{run_with, moved_to}
use Rattle.store_moves.proofs.Passing.{MoveOk, ok_move, into_granted, into_parts}
use Rattle.store_insert.specs.Insert.{overwritten, inserted_at, inserted, inserting}

-- the bytes of number n's row with a value of type t added
abbrev pub row_with : Store → ℕ → ℕ → List ℕ → List ℕ
row_with s n t value = run_with s.decl s.rows (archetype_of s n) (row_of s n) t value

-- what passing the tests of an insert gives, beyond the first: the column of a type that is held
pub record OverOk (s : Store) (t g n j : ℕ) : Type 0 where
  pub entity : EntityOk s g n
  pub held : column_of (types_of s.decl (archetype_of s n)) t ≡ Some j
  pub no_word : any_held s.words ≡ false

-- and the target of one that is not
pub record IntoOk (s : Store) (t g n b : ℕ) : Type 0 where
  pub entity : EntityOk s g n
  pub missing : column_of (types_of s.decl (archetype_of s n)) t ≡ None
  pub target : target_of s.decl (with_type t (types_of s.decl (archetype_of s n))) ≡ some b
  pub move : MoveOk s n b

module _ (s : Store) (t : ℕ) (value : List ℕ) (g n : ℕ) where
  -- tests that pass grant it: the component is overwritten, or the row has moved
  pub over_grants : (j : ℕ) → OverOk s t g n j → inserted s t value g n ≡ granted (tt, overwritten s n j value)
  unfolding inserted inserted_at ◌or_else◌
  over_grants j k = past (entity_rules s g n) _ (ok_entity s g n k.entity) ∙ rw (k.held, k.no_word)

  pub into_grants : (b : ℕ) → IntoOk s t g n b → inserted s t value g n ≡ granted (tt, moved_to s n b (row_with s n t value))
  unfolding inserted inserted_at
  into_grants b k =
      past (entity_rules s g n) _ (ok_entity s g n k.entity)
      ∙ rw (k.missing, k.target) (into_granted s n (row_with s n t value) b (ok_move s n b k.move))

  -- and only they
  abbrev Came : Unit {0} × Store → Type 0
  Came x =
      ((j : ℕ) × OverOk s t g n j × (x ≡ (tt, overwritten s n j value)))
      ⊎ ((b : ℕ) × IntoOk s t g n b × (x ≡ (tt, moved_to s n b (row_with s n t value))))

  by_column : EntityOk s g n → (c : Option ℕ) → column_of (types_of s.decl (archetype_of s n)) t ≡ c → {x : Unit {0} × Store} → granted x ≡ inserted_at s n t value c → Came x
  unfolding inserted_at
  by_column k None q e = let p = into_parts s n (row_with s n t value) _ e in inr (p.0, record { entity = k; missing = q; target = p.1; move = p.2 }, p.3)
  by_column k (Some j) q e =
      let w = (none_holds (8 when any_held s.words ∷ []) (passed_all (8 when any_held s.words ∷ []) (granted (tt, overwritten s n j value)) e).0).0 in
      inl (j, record { entity = k; held = q; no_word = w }, value_of_lem (8 when any_held s.words ∷ []) (tt, overwritten s n j value) e)

  pub insert_parts : {x : Unit {0} × Store} → granted x ≡ inserted s t value g n → Came x
  unfolding inserted
  insert_parts e =
      let p = passed_all (entity_rules s g n) (inserted_at s n t value (column_of (types_of s.decl (archetype_of s n)) t)) e in
      by_column (entity_ok s g n p.0) (column_of (types_of s.decl (archetype_of s n)) t) refl p.1

-- past the first tests, insert says what it says of the handle
module _ (s : Store) (bits t : ℕ) (value : List ℕ) where
  pub inserting_at : granted tt ≡ passing (entry s (wrong_size s.decl.types s.decl.sizes t (length value))) → (generation_in bits ≡ 0 → ⊥)
      → inserting s bits t value ≡ inserted s t value (generation_in bits) (number_in bits)
  unfolding inserting
  inserting_at e ne = on_rest _ bits (inserted s t value) e ne

  pub inserting_parts : {x : Unit {0} × Store} → granted x ≡ inserting s bits t value
      → (granted tt ≡ passing (entry s (wrong_size s.decl.types s.decl.sizes t (length value)))) × (generation_in bits ≡ 0 → ⊥) × (granted x ≡ inserted s t value (generation_in bits) (number_in bits))
  unfolding inserting
  inserting_parts e = on_granted _ bits (inserted s t value) e
