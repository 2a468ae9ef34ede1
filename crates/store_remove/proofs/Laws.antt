-- What remove grants and leaves, for callers that do not open its rule.
-- Assumes nothing.
use Prim.{Unit, tt}
use Prim.Native.Nat.{ℕ}
use mathlib.Core.Path.{◌≡◌, refl, ◌∙◌}
use mathlib.Core.Bool.{false}
use mathlib.Core.List.{List}
use Rattle.std.proofs.Math.Option.{some}
use Rattle.std.specs.Prelude.{Option, Some, None}
use Rattle.refusal.specs.Table.{granted, passing}
use Rattle.refusal.specs.Laws.{not_refused, passed_all, past}
use Rattle.handle.specs.Bits.{generation_in, number_in}
use Rattle.handle.specs.OnBits.{on_rest, on_granted}
use Rattle.decl.specs.Decl.{types_of}
use Rattle.decl.specs.Lookup.{column_of}
use Rattle.store_tables.specs.Store.{Store, entry}
use Rattle.store_tables.specs.Rows.{archetype_of, row_of}
use Rattle.store_tables.specs.Entities.{entity_rules}
use Rattle.store_tables.proofs.Entities.{EntityOk, entity_ok, ok_entity}
use Rattle.store_moves.specs.Target.{without_type, target_of}
use Rattle.store_moves.specs.Moves.{run_without, moved_to}
use Rattle.store_moves.proofs.Passing.{MoveOk, ok_move, into_granted, into_parts}
use Rattle.store_remove.specs.Remove.{removed_at, removed, removing}

-- the bytes of number n's row without column j
abbrev pub row_without : Store → ℕ → ℕ → List ℕ
row_without s n j = run_without s.decl s.rows (archetype_of s n) (row_of s n) j

-- what passing the tests of a remove gives, beyond the first: the component's column, and the target
pub record RemoveOk (s : Store) (t g n j b : ℕ) : Type 0 where
  pub entity : EntityOk s g n
  pub held : column_of (types_of s.decl (archetype_of s n)) t ≡ Some j
  pub target : target_of s.decl (without_type j (types_of s.decl (archetype_of s n))) ≡ some b
  pub move : MoveOk s n b

module _ (s : Store) (t g n : ℕ) where
  -- tests that pass grant it, and the row has moved
  pub remove_grants : (j b : ℕ) → RemoveOk s t g n j b → removed s t g n ≡ granted (tt, moved_to s n b (row_without s n j))
  unfolding removed removed_at
  remove_grants j b k =
      past (entity_rules s g n) _ (ok_entity s g n k.entity)
      ∙ rw (k.held, k.target) (into_granted s n (row_without s n j) b (ok_move s n b k.move))

  by_column : (c : Option ℕ) {x : Unit {0} × Store} → granted x ≡ removed_at s n c
      → (j : ℕ) × (b : ℕ) × (c ≡ Some j) × (target_of s.decl (without_type j (types_of s.decl (archetype_of s n))) ≡ some b) × MoveOk s n b × (x ≡ (tt, moved_to s n b (row_without s n j)))
  unfolding removed_at
  by_column None e = absurd (not_refused e)
  by_column (Some j) e = let p = into_parts s n (row_without s n j) _ e in (j, p.0, refl, p.1, p.2, p.3)

  -- and only they
  pub remove_parts : {x : Unit {0} × Store} → granted x ≡ removed s t g n → (j : ℕ) × (b : ℕ) × RemoveOk s t g n j b × (x ≡ (tt, moved_to s n b (row_without s n j)))
  unfolding removed
  remove_parts e =
      let p = passed_all (entity_rules s g n) (removed_at s n (column_of (types_of s.decl (archetype_of s n)) t)) e in
      let q = by_column (column_of (types_of s.decl (archetype_of s n)) t) p.1 in
      (q.0, q.1, record { entity = entity_ok s g n p.0; held = q.2; target = q.3; move = q.4 }, q.5)

-- past the first tests, remove says what it says of the handle
pub removing_at : (s : Store) (bits t : ℕ) → granted tt ≡ passing (entry s false) → (generation_in bits ≡ 0 → ⊥)
    → removing s bits t ≡ removed s t (generation_in bits) (number_in bits)
unfolding removing
removing_at s bits t e ne = on_rest (entry s false) bits (removed s t) e ne

pub removing_parts : (s : Store) (bits t : ℕ) {x : Unit {0} × Store} → granted x ≡ removing s bits t
    → (granted tt ≡ passing (entry s false)) × (generation_in bits ≡ 0 → ⊥) × (granted x ≡ removed s t (generation_in bits) (number_in bits))
unfolding removing
removing_parts s bits t e = on_granted (entry s false) bits (removed s t) e
