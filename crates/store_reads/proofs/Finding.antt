-- What the lookups of the store say where its first tests pass: what the id layer says, where every live number's place is its own.
-- Assumes nothing.
use Prim.{tt}
use Prim.Native.Nat.{ℕ}
use mathlib.Core.Path.{◌≡◌, refl, sym, ◌∙◌}
use mathlib.Core.Bool.{Bool, true, false, not, ◌&&◌, ◌||◌}
use mathlib.Core.List.{[], ◌∷◌}
use lib.Dec.{eqb}
use Rattle.refusal.specs.Table.{◌when◌, granted, passing}
use Rattle.refusal.specs.Laws.{past, parts}
use Rattle.handle.specs.Bits.{generation_in, number_in}
use Rattle.handle.specs.OnBits.{on_past}
use Rattle.id_tables.specs.Ids.{live}
use Rattle.id_tables.specs.Lookup.{reserved_new}
use Rattle.id_tables.specs.Lookup as ids
use Rattle.id_tables.proofs.Meaning.{ok_passes}
use Rattle.id_tables.proofs.Refusing.{last_line, getting_lines}
use Rattle.store_tables.specs.Store.{Store, entry}
use Rattle.store_tables.specs.Rows.{owns}
use Rattle.store_tables.proofs.Entering.{entered}
use Rattle.store_reads.specs.Component.{place_rules}
use Rattle.store_reads.specs.Lookup.{place_found, getting, containing, resolving, counting}

module _ (s : Store) (e : granted tt ≡ passing (entry s false)) where
  pub containing_is : (bits : ℕ) → containing s bits ≡ ids.containing s.ids bits
  unfolding containing
  containing_is bits = past (entry s false) _ e

  pub resolving_is : (n : ℕ) → resolving s n ≡ ids.resolving s.ids n
  unfolding resolving
  resolving_is n = past (entry s false) _ e

  pub counting_is : counting s ≡ ids.counting s.ids
  unfolding counting
  counting_is = past (entry s false) _ e

  module _ (bits : ℕ) where
    abbrev g : ℕ
    g = generation_in bits

    abbrev n : ℕ
    n = number_in bits

    pub getting_is : (live s.ids (generation_in bits) (number_in bits) ≡ true → owns s (number_in bits) ≡ true) → getting s bits ≡ ids.getting s.ids bits
    unfolding getting place_found place_rules
    getting_is o =
        on_past (entry s false) bits (place_found s) e
        ∙ (sym (parts (5 when eqb g 0 ∷ []) (2 when not (live s.ids g n || reserved_new s.ids.head g n) ∷ 1 when (live s.ids g n && not (owns s n)) ∷ []) _)
        ∙ (last_line (5 when eqb g 0 ∷ 2 when not (live s.ids g n || reserved_new s.ids.head g n) ∷ []) 1 (live s.ids g n && not (owns s n)) _ (λ _. by (live s.ids g n) refl)
        ∙ sym (getting_lines s.ids (sym (ok_passes s.ids (entered s false e).ids)) bits)))
      where
        by : (b : Bool) → live s.ids g n ≡ b → (live s.ids g n && not (owns s n)) ≡ false
        by true l = rw (l, o l)
        by false l = rw l
