-- Type lookup: the tests, then what the search in the archetype's types finds.
-- Assumes nothing.
use Prim.{tt}
use Prim.Native.Nat.{ℕ, ◌+◌, ◌-◌, ◌≤◌, ◌<◌}
use mathlib.Core.Path.{◌≡◌, sym, ap, ◌∙◌}
use mathlib.Core.List.{List, [], ◌∷◌}
use borrow.Author.Tests.{le-leb, lt-leb}
use lib.Dec.{leb}
use lib.ListN.{take, drop}
use Rattle.std.specs.Prelude.{Option, Some, None, Result}
use Rattle.std.specs.Option.{ok_or}
use Rattle.refusal.specs.Table.{◌when◌, granted, refused, ◌or_else◌, passing, answer_of}
use Rattle.refusal.specs.declared.Refusal.{Refusal}
use Rattle.refusal.specs.declared.Refusal.TheVariants.{NoComponent}
use Rattle.refusal.specs.Laws.{past, halted, parts}
use Rattle.decl.specs.Lists.{first_of}
use Rattle.decl.specs.Decl.{Decl, archetypes, types_of}
use Rattle.decl.specs.Rules.{decl_rules}
use Rattle.decl.specs.Kept.{Declared}
use Rattle.decl.specs.Lookup.{column_of, searched, held, looked_up}
use Rattle.decl.proofs.Lists.{part_lent}
use Rattle.decl.proofs.Search.{searched_rising}
use Rattle.decl.proofs.Keeping.{declared}

-- what is found is the answer, and nothing is refusal 15
pub held_told : {r : Result ℕ Refusal} (c : Option ℕ) → r ≡ ok_or c NoComponent → answer_of r ≡ held c
held_told (Some j) e = ap answer_of e
held_told None e = ap answer_of e

module _ (d : Decl) (a t : ℕ) where
  pub look_halts : {n : ℕ} → refused n ≡ passing (decl_rules d) → refused n ≡ looked_up d a t
  unfolding looked_up
  look_halts e = sym (parts (decl_rules d) _ _ ∙ halted (decl_rules d) _ e)

  module _ (e : granted tt ≡ passing (decl_rules d)) where
    look_past : looked_up d a t ≡ (6 when leb (archetypes d) a ∷ [] or_else held (column_of (types_of d a) t))
    unfolding looked_up
    look_past = parts (decl_rules d) _ _ ∙ past (decl_rules d) _ e

    pub look_place : archetypes d ≤ a → refused 6 ≡ looked_up d a t
    unfolding ◌or_else◌
    look_place h = rw (look_past, le-leb (archetypes d) a h)

    -- the search finds it in the part that is lent
    pub look_found : a < archetypes d → (at end : ℕ) (c : Option ℕ) → at ≡ first_of d.widths a → end ≡ first_of d.widths (a + 1)
        → c ≡ searched (take (end - at) (drop at d.types)) t → held c ≡ looked_up d a t
    unfolding ◌or_else◌ types_of
    look_found h at end c p q s =
        rw (look_past, lt-leb (archetypes d) a h)
        (ap held (s ∙ ap (λ (xs : List ℕ). searched xs t) (part_lent d.widths d.types a at end p q) ∙ searched_rising (types_of d a) ((declared d e).rises a) t))

-- where a search in the types of an archetype leads
pub found_in : (d : Decl) → Declared d → (a t : ℕ) → searched (types_of d a) t ≡ column_of (types_of d a) t
found_in d k a t = searched_rising (types_of d a) (k.rises a) t
