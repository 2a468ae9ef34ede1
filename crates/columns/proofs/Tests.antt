-- The tests that single calls add, over plain numbers.
-- Assumes nothing.
use Prim.{tt}
use Prim.Native.Nat.{ℕ, ◌≤◌, ◌<◌}
use mathlib.Core.Bool.{true, false, and-false}
use mathlib.Core.List.{List}
use mathlib.Core.Path.{◌≡◌, sym, ap, ◌∙◌}
use native.Mathlib.Omega.{arith}
use borrow.Author.Tests.{le-leb, lt-leb, lt-ltb, le-ltb, eq-eqb, ne_eqb}
use lib.ListN.{length, get_or}
use Rattle.refusal.specs.Table.{granted, refused, passing}
use Rattle.decl.specs.Decl.{Decl, archetypes}
use Rattle.decl.specs.Places.{row_width}
use Rattle.decl.specs.declared.Span.{Span}
use Rattle.column_entry.specs.Entry.{span_in, wrong_size}
use Rattle.column_entry.specs.Kept.{Kept}
use Rattle.refusal.specs.Chain.{applies, onward, through}
use Rattle.column_entry.proofs.Keeping.{span_kept}
use Rattle.columns.specs.Calls.{room_rules, width_rules, size_rules}

-- Allocate: the archetype, and room in it.
module _ (rows counts : List ℕ) (a : ℕ) where
  pub no_archetype : length rows ≤ a → refused 6 ≡ passing (room_rules rows counts a)
  unfolding room_rules
  no_archetype h = applies 6 _ (le-leb _ _ h)

  module _ (declared : a < length rows) (n : ℕ) (count : n ≡ get_or counts a 0) where
    pub no_room : get_or rows a 0 ≤ n → refused 4 ≡ passing (room_rules rows counts a)
    unfolding room_rules
    no_room h = onward 6 _ (lt-leb _ _ declared) (applies 4 _ (le-leb (get_or rows a 0) (get_or counts a 0) (rw count at h)))

    pub room : n < get_or rows a 0 → granted tt ≡ passing (room_rules rows counts a)
    unfolding room_rules
    room h = onward 6 _ (lt-leb _ _ declared) (onward 4 _ (lt-leb (get_or rows a 0) (get_or counts a 0) (rw count at h)) through)

-- Put: the size of a type.
module _ (rows types sizes : List ℕ) (a t len : ℕ) where
  pub size_untested : length rows ≤ a → granted tt ≡ passing (size_rules rows types sizes a t len)
  unfolding size_rules
  size_untested h = onward 13 _ (simp (le-ltb _ _ h)) through

  pub size_wrong : a < length rows → wrong_size types sizes t len ≡ true → refused 13 ≡ passing (size_rules rows types sizes a t len)
  unfolding size_rules
  size_wrong h e = applies 13 _ (simp (lt-ltb _ _ h, e))

  pub size_right : wrong_size types sizes t len ≡ false → granted tt ≡ passing (size_rules rows types sizes a t len)
  unfolding size_rules
  size_right e = onward 13 _ (simp (e, and-false)) through

-- Move out: the width of a row.
module _ (d : Decl) (a len : ℕ) where
  pub width_untested : archetypes d ≤ a → granted tt ≡ passing (width_rules d a len)
  unfolding width_rules
  width_untested h = onward 13 _ (simp (le-ltb _ _ h)) through

  module _ (k : Kept d) (declared : a < archetypes d) (s : Span) (span : s ≡ span_in d a) where
    wide : s.bytes ≡ row_width d a
    wide = ap (λ (t : Span). t.bytes) (span ∙ span_kept d a k (omega arith))

    pub width_wrong : (len ≡ s.bytes → ⊥) → refused 13 ≡ passing (width_rules d a len)
    unfolding width_rules
    width_wrong h = applies 13 _ (simp (lt-ltb _ _ declared, ne_eqb len (row_width d a) (λ e. h (e ∙ sym wide))))

    pub width_right : len ≡ s.bytes → granted tt ≡ passing (width_rules d a len)
    unfolding width_rules
    width_right h = onward 13 _ (simp (eq-eqb len (row_width d a) (h ∙ wide), and-false)) through
