-- A cursor that falls by n: the two counts that it has then, and where 64 bits hold it.
-- Assumes nothing.
use Rattle.std.proofs.Common.{◌≡◌, ℕ, zero, suc, ◌+◌, ◌-◌, ◌^◌, ◌<◌, ◌≤◌, Bool, true, false, cond, ltb, ℤ, pos, negsuc, ◌-ℤ◌, refl, arith, to_z-of_z, w64, SFits, to_z, of_z, ltb-false, ltb-true, le-leb}
use borrow.Author.Tests.{lt-leb}
use lib.Signed.{mag}
use Rattle.id_tables.specs.declared.head.Head.{Head}
use Rattle.id_tables.specs.Head.{free_of, new_of, fallen, fallen_fit}
use Rattle.id_tables.specs.Ids.{Ids, ids_of, room, EntryOk}

-- the difference of a and b, by the test that decides its sign
abbrev less : ℕ → ℕ → Bool → ℤ
less a b t = cond t (negsuc (b - suc a)) (pos (a - b))

less_free : (a b : ℕ) (t : Bool) → ltb a b ≡ t → free_of (less a b t) ≡ a - b
less_free a b true e = omega (arith, ltb-true a b e)
less_free a b false e = refl

less_new : (a b : ℕ) (t : Bool) → ltb a b ≡ t → new_of (less a b t) ≡ b - a
less_new a b true e = omega (arith, ltb-true a b e)
less_new a b false e = omega (arith, ltb-false a b e)

less_mag : (a b : ℕ) (t : Bool) → ltb a b ≡ t → a < 2 ^ 63 → b ≤ 2 ^ 63 → mag (less a b t) < 2 ^ 63
less_mag a b true e h k = omega (arith, ltb-true a b e)
less_mag a b false e h k = omega arith

-- the counts of the cursor that fell: the free entries go first, then new numbers
pub free_fallen : (x : ℤ) (n : ℕ) → free_of (x -ℤ pos n) ≡ free_of x - n
free_fallen (pos m) zero = omega arith
free_fallen (pos m) (suc n) = less_free m (suc n) (ltb m (suc n)) refl
free_fallen (negsuc m) zero = omega (arith, less_free 0 (suc m) (ltb 0 (suc m)) refl)
free_fallen (negsuc m) (suc n) = omega arith

pub new_fallen : (x : ℤ) (n : ℕ) → new_of (x -ℤ pos n) ≡ new_of x + (n - free_of x)
new_fallen (pos m) zero = omega arith
new_fallen (pos m) (suc n) = omega (arith, less_new m (suc n) (ltb m (suc n)) refl)
new_fallen (negsuc m) zero = omega (arith, less_new 0 (suc m) (ltb 0 (suc m)) refl)
new_fallen (negsuc m) (suc n) = omega arith

-- 64 bits hold it unless it falls too deep
pub fall_held : (x : ℤ) (n : ℕ) → SFits w64 x → n < 2 ^ 32 → new_of x + n ≤ 2 ^ 63 → SFits w64 (x -ℤ pos n)
fall_held (pos m) zero f h k = record { sfits = omega (arith, f.sfits) }
fall_held (pos m) (suc n) f h k = record { sfits = less_mag m (suc n) (ltb m (suc n)) refl f.sfits (omega arith) }
fall_held (negsuc m) zero f h k = record { sfits = less_mag 0 (suc m) (ltb 0 (suc m)) refl (omega arith) (omega arith) }
fall_held (negsuc m) (suc n) f h k = record { sfits = omega (arith, f.sfits) }

-- and then it is read back whole, and so is the number that it falls by
pub fall_is : (x : ℤ) (n : ℕ) → SFits w64 x → n < 2 ^ 32 → new_of x + n ≤ 2 ^ 63 → (y : ℤ) → y ≡ pos n → to_z w64 (of_z w64 (to_z w64 (of_z w64 x) -ℤ to_z w64 (of_z w64 y))) ≡ x -ℤ pos n
fall_is x n f h k y e =
    let g : SFits w64 (pos n) = record { sfits = omega arith } in
    rw (e, to_z-of_z f, to_z-of_z g, to_z-of_z (fall_held x n f h k))

module _ (h : Head) (n : ℕ) where
  pub falls : new_of h.cursor + n ≤ 2 ^ 63 → fallen_fit h n ≡ fallen h n
  unfolding fallen_fit
  falls k = rw (le-leb _ _ k)

  pub stays : 2 ^ 63 < new_of h.cursor + n → fallen_fit h n ≡ h
  unfolding fallen_fit
  stays k = rw (lt-leb _ _ k)

-- under the head rule the cursor falls
pub falls_in : (s : Ids) (n : ℕ) → EntryOk s → n < 2 ^ 32 → fallen_fit s.head n ≡ fallen s.head n
falls_in s n ok h = falls s.head n (omega arith)

-- and keeps the rule where there is room for n, which is taken from the room
module _ (s : Ids) (n : ℕ) where
  abbrev left : Ids
  left = ids_of (fallen s.head n) s.generations s.archetypes s.indices s.pending

  pub fallen_ok : EntryOk s → n ≤ room s → EntryOk left
  fallen_ok ok h =
      record {
        small = ok.small;
        archetypes_long = ok.archetypes_long;
        indices_long = ok.indices_long;
        pending_long = ok.pending_long;
        used_in = ok.used_in;
        pending_in = ok.pending_in;
        free_in = omega (arith, free_fallen s.head.cursor n);
        new_in = omega (arith, new_fallen s.head.cursor n);
        live_is = ok.live_is;
      }

  pub fallen_room : EntryOk s → n ≤ room s → room left ≡ room s - n
  fallen_room ok h = omega (arith, free_fallen s.head.cursor n, new_fallen s.head.cursor n)
