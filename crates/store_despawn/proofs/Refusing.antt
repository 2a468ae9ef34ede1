-- What despawn refuses where the first tests pass and the entries that it uses are whole: its own lines, and no 1.
-- Assumes nothing.
use Prim.Native.Nat.{ℕ}
use mathlib.Core.Path.{◌≡◌, refl, ap, ◌∙◌}
use mathlib.Core.Bool.{Bool, true, false, not}
use mathlib.Core.List.{[], ◌∷◌}
use lib.Dec.{eqb}
use borrow.Author.Tests.{not-false, ne_eqb}
use Rattle.refusal.specs.Table.{◌when◌, Answer, ◌or_else◌}
use Rattle.handle.specs.Bits.{generation_in, number_in}
use Rattle.borrow_word.specs.Slice.{any_held}
use Rattle.id_tables.specs.Head.{flushed}
use Rattle.id_tables.specs.Ids.{live}
use Rattle.store_tables.specs.Store.{Store}
use Rattle.store_tables.specs.Rows.{archetype_of, row_of, owns, moved_damaged}
use Rattle.store_tables.specs.Kept.{Entered}
use Rattle.store_tables.proofs.Passing.{bits_lines}
use Rattle.store_despawn.specs.Despawn.{despawn_rules, ended, despawned, despawning}

lines : {A : Type 0} (b c d e f g h : Bool) (a : Answer A) → (d ≡ false → e ≡ false) → (d ≡ false → g ≡ false) → (d ≡ false → h ≡ false)
    → (13 when false ∷ 5 when b ∷ [] or_else (3 when c ∷ 2 when d ∷ 1 when e ∷ 8 when f ∷ 1 when g ∷ 1 when h ∷ [] or_else a))
    ≡ (5 when b ∷ 3 when c ∷ 2 when d ∷ 8 when f ∷ [] or_else a)
unfolding ◌or_else◌
lines true c d e f g h a x y z = refl
lines false true d e f g h a x y z = refl
lines false false true e f g h a x y z = refl
lines false false false e true g h a x y z = rw (x refl)
lines false false false e false g h a x y z = rw (x refl, y refl, z refl)

-- of a live handle: its place is its own, the live count is not 0, and the number that is moved is whole
pub record Whole (s : Store) (g n : ℕ) : Type 0 where
  pub own : live s.ids g n ≡ true → owns s n ≡ true
  pub some_live : live s.ids g n ≡ true → s.ids.head.live ≡ 0 → ⊥
  pub moved_good : live s.ids g n ≡ true → moved_damaged s (archetype_of s n) (row_of s n) ≡ false

pub despawning_lines : (s : Store) (bits : ℕ) → Entered s → Whole s (generation_in bits) (number_in bits)
    → despawning s bits
    ≡ (5 when eqb (generation_in bits) 0
    ∷ 3 when not (flushed s.ids.head)
    ∷ 2 when not (live s.ids (generation_in bits) (number_in bits))
    ∷ 8 when any_held s.words
    ∷ []
    or_else ended s (generation_in bits) (number_in bits))
unfolding despawning despawned despawn_rules
despawning_lines s bits e w =
    bits_lines s e false bits (despawned s)
    ∙ lines (eqb (generation_in bits) 0) (not (flushed s.ids.head)) (not (live s.ids (generation_in bits) (number_in bits))) (not (owns s (number_in bits))) (any_held s.words) (eqb s.ids.head.live 0) (moved_damaged s (archetype_of s (number_in bits)) (row_of s (number_in bits))) _
    (λ x. ap not (w.own (not-false _ x))) (λ x. ne_eqb s.ids.head.live 0 (w.some_live (not-false _ x))) (λ x. w.moved_good (not-false _ x))
