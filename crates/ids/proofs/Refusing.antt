-- What each call refuses where the first tests pass and the entries that it uses are whole: its own lines, and no 1.
-- Assumes nothing.
use Prim.{tt}
use Prim.Native.Nat.{ℕ}
use mathlib.Core.Path.{◌≡◌, sym, ◌∙◌}
use mathlib.Core.Bool.{true, false, cond, not, ◌&&◌}
use mathlib.Core.List.{[], ◌∷◌}
use borrow.Author.Tests.{ne_eqb, not-false}
use lib.Dec.{ltb, leb, eqb}
use Rattle.refusal.specs.Table.{◌when◌, granted, ◌otherwise◌, passing}
use Rattle.refusal.specs.Laws.{go, parts, none_holds}
use Rattle.handle.specs.Bits.{MAX, bits_of, generation_in, number_in}
use Rattle.handle.specs.OnBits.{on_past}
use Rattle.handle.specs.declared.Place.{Place}
use Rattle.id_tables.specs.Head.{flushed}
use Rattle.id_tables.specs.Ids.{Ids, entry, capacity, room, damaged, live, place_at}
use Rattle.id_tables.proofs.Refusing.{last_line}
use Rattle.ids.specs.Reserve.{has_free, last_free, reserved_number, reserved_generation, reserved_ids, reserving}
use Rattle.ids.specs.Alloc.{has_pending, last_pending, alloc_rules, allocated_last, allocated_new, allocating}
use Rattle.ids.specs.AllocAt.{chosen_damaged, allocated_at, chosen_rules, alloc_at, allocating_at}
use Rattle.ids.specs.Free.{freed_ids, freed, freeing}

module _ (s : Ids) (e : granted tt ≡ passing (entry s false)) where
  pub reserving_lines : (has_free s && damaged s (last_free s)) ≡ false
      → reserving s ≡ (4 when ltb (room s) 1 ∷ [] otherwise (bits_of (reserved_generation s) (reserved_number s), reserved_ids s))
  unfolding reserving
  reserving_lines w = go (entry s false) _ _ e ∙ last_line (4 when ltb (room s) 1 ∷ []) 1 _ _ (λ _. w)

  pub allocating_lines : (place : Place) → (has_pending s && damaged s (last_pending s)) ≡ false
      → allocating s place
      ≡ (3 when not (flushed s.head)
      ∷ 6 when leb MAX place.index.0
      ∷ 4 when ltb (room s) 1
      ∷ []
      otherwise cond (has_pending s) (allocated_last s place) (allocated_new s place))
  unfolding allocating alloc_rules
  allocating_lines place w =
      go (entry s false) _ _ e ∙ last_line (3 when not (flushed s.head) ∷ 6 when leb MAX place.index.0 ∷ 4 when ltb (room s) 1 ∷ []) 1 _ _ (λ _. w)

  module _ (bits : ℕ) where
    abbrev g : ℕ
    g = generation_in bits

    abbrev n : ℕ
    n = number_in bits

    pub freeing_lines : (live s (generation_in bits) (number_in bits) ≡ true → s.head.live ≡ 0 → ⊥)
        → freeing s bits
        ≡ (5 when eqb (generation_in bits) 0
        ∷ 3 when not (flushed s.head)
        ∷ 2 when not (live s (generation_in bits) (number_in bits))
        ∷ []
        otherwise (place_at s (number_in bits), freed_ids s (generation_in bits) (number_in bits)))
    unfolding freeing freed
    freeing_lines w =
        on_past (entry s false) bits (freed s) e
        ∙ (sym (parts (5 when eqb g 0 ∷ []) (3 when not (flushed s.head) ∷ 2 when not (live s g n) ∷ 1 when eqb s.head.live 0 ∷ []) _)
        ∙ last_line (5 when eqb g 0 ∷ 3 when not (flushed s.head) ∷ 2 when not (live s g n) ∷ []) 1 (eqb s.head.live 0) _
        (λ p. let h = none_holds (5 when eqb g 0 ∷ 3 when not (flushed s.head) ∷ 2 when not (live s g n) ∷ []) p in ne_eqb s.head.live 0 (w (not-false _ h.1.1.0))))

    pub choosing_lines : (place : Place) → chosen_damaged s (number_in bits) ≡ false
        → allocating_at s bits place
        ≡ (5 when eqb (generation_in bits) 0
        ∷ 3 when not (flushed s.head)
        ∷ 6 when leb MAX place.index.0
        ∷ 4 when leb (capacity s) (number_in bits)
        ∷ []
        otherwise allocated_at s place (generation_in bits) (number_in bits))
    unfolding allocating_at alloc_at chosen_rules
    choosing_lines place w =
        on_past (entry s false) bits (alloc_at s place) e
        ∙ (sym (parts (5 when eqb g 0 ∷ []) (3 when not (flushed s.head) ∷ 6 when leb MAX place.index.0 ∷ 4 when leb (capacity s) n ∷ 1 when chosen_damaged s n ∷ []) _)
        ∙ last_line (5 when eqb g 0 ∷ 3 when not (flushed s.head) ∷ 6 when leb MAX place.index.0 ∷ 4 when leb (capacity s) n ∷ []) 1 (chosen_damaged s n) _ (λ _. w))
