-- The ways through the rule of alloc at, over plain values.
-- Assumes nothing.
use Prim.{tt}
use Prim.Native.Nat.{ℕ, ◌+◌, ◌-◌, ◌<◌, ◌≤◌}
use mathlib.Core.Path.{◌≡◌, ◌∙◌}
use mathlib.Core.Bool.{true, false}
use mathlib.Core.List.{List, [], ◌∷◌}
use mathlib.Core.Option.{Option, none, some}
use borrow.Author.Tests.{lt-ltb, le-ltb, le-leb, lt-leb, eq-eqb, ne_eqb}
use lib.Dec.{eqb}
use lib.ListN.{set, replicate}
use lib.Seq.{sets}
use Rattle.refusal.specs.Table.{Answer, granted, refused, ◌when◌, ◌or_else◌, ◌otherwise◌, passing, Did}
use Rattle.refusal.specs.Laws.{stop, go, grant, refuse}
use Rattle.handle.specs.Bits.{MAX}
use Rattle.handle.specs.declared.Place.{Place}
use Rattle.id_tables.specs.declared.head.Head.{Head}
use Rattle.id_tables.specs.Head.{flushed_head}
use Rattle.id_tables.specs.Ids.{Ids, ids_of, capacity, damaged, index_at, place_at}
use Rattle.id_tables.specs.Runs.{up_from}
use Rattle.ids.specs.Alloc.{last_pending, settled}
use Rattle.ids.specs.AllocAt.{pending_at, stretched, taken_out, chosen_rules, alloc_at}

-- the generation and the number, as the code has taken them from the handle
module _ (s : Ids) (place : Place) (g n g' n' : ℕ) (eg : g' ≡ g) (en : n' ≡ n) where
  pub stops : {m : ℕ} → refused m ≡ passing (chosen_rules s.head (capacity s) place n') → alloc_at s place g n ≡ refused m
  unfolding alloc_at
  stops e = rw (← en) (stop _ _ _ e)

  module _ (e : granted tt ≡ passing (chosen_rules s.head (capacity s) place n')) where
    pub goes_past : s.head.used ≤ n' → alloc_at s place g n ≡ granted (none, settled (stretched s n') n' g' place)
    unfolding alloc_at ◌or_else◌
    goes_past h = rw (← eg, ← en) (go (chosen_rules s.head (capacity s) place n') _ _ e ∙ simp (le-ltb _ _ h, le-leb _ _ h))

    module _ (h : n' < s.head.used) where
      pub goes_pending : pending_at s n' < s.head.pending
          → alloc_at s place g n ≡ (1 when damaged s n' ∷ [] otherwise (none, settled (taken_out s n') n' g' place))
      unfolding alloc_at ◌or_else◌
      goes_pending k =
          rw (← eg, ← en) (go (chosen_rules s.head (capacity s) place n') _ _ e ∙ simp (lt-ltb _ _ h, lt-leb _ _ h, lt-ltb _ _ k))

      pub goes_over : s.head.pending ≤ pending_at s n'
          → alloc_at s place g n ≡ (1 when eqb (index_at s n') MAX ∷ [] otherwise (some (place_at s n'), settled s n' g' place))
      unfolding alloc_at ◌or_else◌
      goes_over k =
          rw (← eg, ← en) (go (chosen_rules s.head (capacity s) place n') _ _ e ∙ simp (lt-ltb _ _ h, lt-leb _ _ h, le-ltb _ _ k))

-- a step that leaves what the rule grants
pub left_did : {A S : Type 0} {rule : Answer (A × S)} {s t left : S} {v : A} → rule ≡ granted (v, t) → left ≡ t → Did rule s (granted v) left
left_did e l = rw l (grant e)

-- what each of the three steps does: the tables that it left are those of the rule
module _ (s : Ids) (place : Place) (g n : ℕ) (generations archetypes indices : List ℕ) where
  pub past_left : (gs xs ys pending : List ℕ) (left : Head)
      → (gs ≡ sets s.generations s.head.used (replicate (n - s.head.used) 1)) × (xs ≡ sets s.archetypes s.head.used (replicate (n - s.head.used) 0)) × (ys ≡ sets s.indices s.head.used (replicate (n - s.head.used) MAX)) × (pending ≡ sets s.pending s.head.pending (up_from s.head.used (n - s.head.used)))
      → (generations ≡ set gs n g) × (archetypes ≡ set xs n place.archetype) × (indices ≡ set ys n place.index.0)
      → left ≡ flushed_head (n + 1) (s.head.pending + (n - s.head.used)) (s.head.live + 1)
      → ids_of left generations archetypes indices pending ≡ settled (stretched s n) n g place
  past_left gs xs ys pending left w v l = rw (v.0, v.1, v.2, w.0, w.1, w.2, w.3, l)

  module _ (v : (generations ≡ set s.generations n g) × (archetypes ≡ set s.archetypes n place.archetype) × (indices ≡ set s.indices n place.index.0)) where
    pub pending_did : (moved at : ℕ) (pending : List ℕ) (left : Head) → damaged s n ≡ false → moved ≡ last_pending s → at ≡ pending_at s n
        → pending ≡ set s.pending at moved → left ≡ flushed_head s.head.used (s.head.pending - 1) (s.head.live + 1)
        → Did {A = Option Place} (1 when damaged s n ∷ [] otherwise (none, settled (taken_out s n) n g place)) s (granted none) (ids_of left generations archetypes indices pending)
    unfolding ◌or_else◌
    pending_did moved at pending left d m a p l = grant (simp d (rw (v.0, v.1, v.2, p, m, a, l)))

    pub over_did : (old : Place) → old ≡ place_at s n → (old.index.0 ≡ MAX → ⊥)
        → Did (1 when eqb (index_at s n) MAX ∷ [] otherwise (some (place_at s n), settled s n g place)) s (granted (some old)) (ids_of s.head generations archetypes indices s.pending)
    unfolding ◌or_else◌
    over_did old o ne = rw o (grant (simp (ne_eqb (index_at s n) MAX (rw o at ne)) (rw (v.0, v.1, v.2))))

module _ (s : Ids) (n : ℕ) (granting : Option Place × Ids) where
  pub pending_refused : damaged s n ≡ true → Did (1 when damaged s n ∷ [] otherwise granting) s (refused 1) s
  unfolding ◌or_else◌
  pending_refused d = refuse (simp d)

  pub over_refused : (old : Place) → old ≡ place_at s n → old.index.0 ≡ MAX → Did (1 when eqb (index_at s n) MAX ∷ [] otherwise granting) s (refused 1) s
  unfolding ◌or_else◌
  over_refused old o e = refuse (simp (eq-eqb (index_at s n) MAX (rw o at e)))
