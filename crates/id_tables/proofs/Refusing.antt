-- What each call refuses where the first tests pass: its own lines and no others, for callers that do not open its rule.
-- Assumes nothing.
use Prim.{tt}
use Rattle.std.proofs.Common.{◌≡◌, ℕ, ◌+◌, ◌<◌, Bool, true, false, cond, not, ◌&&◌, ◌||◌, eqb, ltb, leb, List, [], ◌∷◌, ◌++◌, sym, refl, ◌∙◌, ltb-true, ne_eqb}
use Rattle.refusal.specs.Table.{Rule, ◌when◌, Answer, granted, refused, ◌or_else◌, ◌otherwise◌, passing}
use Rattle.refusal.specs.Laws.{go, past, halted, parts}
use Rattle.handle.specs.Bits.{MAX, bits_of, place_of, generation_in, number_in}
use Rattle.handle.specs.OnBits.{on_past}
use Rattle.handle.specs.declared.Place.{Place}
use Rattle.id_tables.specs.Head.{new_of}
use Rattle.id_tables.specs.Ids.{Ids, entry, live, generation_at, place_at, placed}
use Rattle.id_tables.specs.Lookup.{reserved_new, is_contained, containing, place_got, getting, place_set, setting_place, resolving}
use Rattle.id_tables.proofs.Entering.{entry_ok, is_short}
use Rattle.id_tables.proofs.Passing.{ok_parts}

-- a last line that does not hold where the lines before it pass
pub last_line : {A : Type 0} (rules : List Rule) (n : ℕ) (t : Bool) (a : Answer A) → (granted tt ≡ passing rules → t ≡ false) → (rules ++ n when t ∷ [] or_else a) ≡ (rules or_else a)
unfolding ◌or_else◌
last_line [] n t a f = rw (f refl)
last_line (m when true ∷ rest) n t a f = refl
last_line (m when false ∷ rest) n t a f = last_line rest n t a f

-- a generation of 0
abbrev zero : ℕ → Bool
zero bits = eqb (generation_in bits) 0

module _ (s : Ids) (e : granted tt ≡ passing (entry s false)) where
  -- the first tests of a call with an output
  entry_short : refused 13 ≡ passing (entry s true)
  entry_short = let p = ok_parts s (entry_ok s false e) in sym (is_short s true p.0 p.1 refl)

  pub entry_lines : {A : Type 0} (short : Bool) (a : Answer A) → (entry s short or_else a) ≡ (13 when short ∷ [] or_else a)
  unfolding ◌or_else◌
  entry_lines true a = halted (entry s true) a entry_short
  entry_lines false a = past (entry s false) a e

  module _ (bits : ℕ) where
    abbrev g : ℕ
    g = generation_in bits

    abbrev n : ℕ
    n = number_in bits

    pub containing_lines : containing s bits ≡ (5 when eqb (generation_in bits) 0 ∷ [] otherwise is_contained s (generation_in bits) (number_in bits))
    unfolding containing
    containing_lines = on_past (entry s false) bits _ e

    pub getting_lines : getting s bits
        ≡ (5 when eqb (generation_in bits) 0
        ∷ 2 when not (live s (generation_in bits) (number_in bits) || reserved_new s.head (generation_in bits) (number_in bits))
        ∷ []
        otherwise cond (live s (generation_in bits) (number_in bits)) (place_at s (number_in bits)) (place_of 0 MAX))
    unfolding getting place_got
    getting_lines = on_past (entry s false) bits (place_got s) e ∙ sym (parts (5 when zero bits ∷ []) (2 when not (live s g n || reserved_new s.head g n) ∷ []) _)

    pub setting_lines : (place : Place) → setting_place s bits place
        ≡ (5 when eqb (generation_in bits) 0
        ∷ 6 when leb MAX place.index.0
        ∷ 2 when not (live s (generation_in bits) (number_in bits))
        ∷ []
        otherwise (tt, placed s (number_in bits) place))
    unfolding setting_place place_set
    setting_lines place = on_past (entry s false) bits (place_set s place) e ∙ sym (parts (5 when zero bits ∷ []) (6 when leb MAX place.index.0 ∷ 2 when not (live s g n) ∷ []) _)

  pub resolving_lines : (n : ℕ) → (n < s.head.used → generation_at s n ≡ 0 → ⊥)
      → resolving s n ≡ (2 when leb (s.head.used + new_of s.head.cursor) n ∷ [] otherwise bits_of (cond (ltb n s.head.used) (generation_at s n) 1) n)
  unfolding resolving
  resolving_lines n w =
      go (entry s false) _ _ e
      ∙ last_line (2 when leb (s.head.used + new_of s.head.cursor) n ∷ []) 1 (ltb n s.head.used && eqb (generation_at s n) 0) _ (λ _. by (ltb n s.head.used) refl)
    where
      by : (b : Bool) → ltb n s.head.used ≡ b → (ltb n s.head.used && eqb (generation_at s n) 0) ≡ false
      by true h = rw h (ne_eqb (generation_at s n) 0 (w (ltb-true n s.head.used h)))
      by false h = rw h
