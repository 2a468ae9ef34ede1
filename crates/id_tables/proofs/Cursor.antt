-- The head rule: its two lines for the cursor as one.
-- Assumes nothing.
use Rattle.std.proofs.Common.{◌≡◌, ℕ, ◌-◌, ◌≤◌, Bool, true, false, not, ◌||◌, eqb, ltb, List, [], ◌∷◌, refl, le-ltb}
use borrow.Author.Tests.{not-true, not-false}
use Rattle.refusal.specs.Table.{Rule, ◌when◌, refused, ◌or_else◌, passing}
use Rattle.id_tables.specs.declared.head.Head.{Head}
use Rattle.id_tables.specs.Head.{free_of, new_of, head_rules}

-- two lines of one number
module _ (m : ℕ) (a b : Bool) (rest : List Rule) where
  pub one_holds : (a || b) ≡ true → passing (m when a ∷ m when b ∷ rest) ≡ refused m
  unfolding ◌or_else◌
  one_holds e = by a b e
    where
      by : (a b : Bool) → (a || b) ≡ true → passing (m when a ∷ m when b ∷ rest) ≡ refused m
      by true b e = refl
      by false true e = refl
      by false false e = cc

  pub none_of_two : (a || b) ≡ false → passing (m when a ∷ m when b ∷ rest) ≡ passing rest
  unfolding ◌or_else◌
  none_of_two e = by a b e
    where
      by : (a b : Bool) → (a || b) ≡ false → passing (m when a ∷ m when b ∷ rest) ≡ passing rest
      by true b e = cc
      by false true e = cc
      by false false e = refl

-- the head rule where used and pending are within it: its two lines for the cursor, then the live count's
module _ (h : Head) (capacity : ℕ) (u : h.used ≤ capacity) (q : h.pending ≤ h.used) where
  abbrev cursor_wrong : Bool
  cursor_wrong = ltb h.pending (free_of h.cursor) || ltb (capacity - h.used) (new_of h.cursor)

  abbrev live_rule : List Rule
  live_rule = 1 when not (eqb h.live (h.used - h.pending)) ∷ []

  pub cursor_broken : not cursor_wrong ≡ false → passing (head_rules h capacity) ≡ refused 1
  unfolding head_rules ◌or_else◌
  cursor_broken e =
      simp (le-ltb capacity h.used u, le-ltb h.used h.pending q)
      (one_holds 1 (ltb h.pending (free_of h.cursor)) (ltb (capacity - h.used) (new_of h.cursor)) live_rule (not-false _ e))

  pub cursor_held : not cursor_wrong ≡ true → passing (head_rules h capacity) ≡ passing live_rule
  unfolding head_rules ◌or_else◌
  cursor_held e =
      simp (le-ltb capacity h.used u, le-ltb h.used h.pending q)
      (none_of_two 1 (ltb h.pending (free_of h.cursor)) (ltb (capacity - h.used) (new_of h.cursor)) live_rule (not-true _ e))
