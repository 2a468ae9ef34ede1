-- The ways through the rules of the lookups, over plain values. A code's own generation g' and number n' are the handle's g and n.
-- Assumes nothing.
use Prim.{tt}
use Rattle.std.proofs.Common.{◌≡◌, ℕ, ◌+◌, ◌-◌, ◌<◌, ◌≤◌, Bool, true, false, cond, ◌&&◌, eqb, ltb, List, Result, Ok, Err, set, sym, refl, ◌∙◌, arith, ltb-false, ltb-true, le-ltb, lt-ltb, eq-eqb, ne_eqb, eqb-true, le-leb}
use mathlib.Core.Bool.{or-false}
use borrow.Author.Tests.{lt-leb}
use Rattle.refusal.specs.Table.{Answer, granted, refused, ◌or_else◌, passing, Did}
use Rattle.refusal.specs.Laws.{grant, go}
use Rattle.refusal.specs.declared.Refusal.{Refusal}
use Rattle.handle.specs.Bits.{MAX, handle_of, new_handle}
use Rattle.handle.specs.RoundTrip.{new_good, new_bad}
use Rattle.handle.specs.declared.Handle.{Handle}
use Rattle.handle.specs.declared.Place.{Place}
use Rattle.id_tables.specs.declared.head.Head.{Head}
use Rattle.id_tables.specs.Head.{new_of}
use Rattle.id_tables.specs.Ids.{Ids, ids_of, entry, live, live_in, generation_at, index_at}
use Rattle.id_tables.specs.Lookup.{any_is, reserved_old, is_reserved_old, reserved_new, is_contained, place_got, place_set, resolving}
use Rattle.id_tables.proofs.Laws.{new_below}

-- how far a number lies past used, against the new numbers
past_used : (u n k : ℕ) (b : Bool) → u ≤ n → ltb n (u + k) ≡ b → ltb (n - u) k ≡ b
past_used u n k true h e = lt-ltb (n - u) k (omega (arith, ltb-true n (u + k) e))
past_used u n k false h e = le-ltb (n - u) k (omega (arith, ltb-false n (u + k) e))

module _ (h : Head) (g n : ℕ) where
  pub new_other : (g ≡ 1 → ⊥) → reserved_new h g n ≡ false
  unfolding reserved_new
  new_other ne = simp (ne_eqb _ _ ne)

  pub new_past : g ≡ 1 → h.used ≤ n → reserved_new h g n ≡ ltb (n - h.used) (new_of h.cursor)
  unfolding reserved_new
  new_past e l = simp (eq-eqb _ _ e, le-leb _ _ l) (sym (past_used h.used n (new_of h.cursor) _ l refl))

module _ (s : Ids) (g n g' n' : ℕ) (eg : g' ≡ g) (en : n' ≡ n) where
  -- contains
  pub in_new : {b : Bool} → s.head.used ≤ n' → b ≡ reserved_new s.head g' n' → b ≡ is_contained s g n
  unfolding is_contained is_reserved_old live_in
  in_new l e = rw (← eg, ← en) (simp (le-ltb _ _ l) e)

  pub in_other : n' < s.head.used → (generation_at s n' ≡ g' → ⊥) → false ≡ is_contained s g n
  unfolding is_contained is_reserved_old live_in
  in_other l ne = rw (← eg, ← en) (simp (lt-ltb _ _ l, ne_eqb _ _ ne, new_below s.head g' n' l))

  pub in_live : n' < s.head.used → generation_at s n' ≡ g' → (index_at s n' ≡ MAX → ⊥) → true ≡ is_contained s g n
  unfolding is_contained is_reserved_old live_in
  in_live l e ne = rw (← eg, ← en) (simp (lt-ltb _ _ l, eq-eqb _ _ e, ne_eqb _ _ ne))

  pub in_old : {b : Bool} → n' < s.head.used → generation_at s n' ≡ g' → index_at s n' ≡ MAX → b ≡ any_is n' (reserved_old s) → b ≡ is_contained s g n
  unfolding is_contained is_reserved_old live_in
  in_old l e x a = rw (← eg, ← en) (simp (lt-ltb _ _ l, eq-eqb _ _ e, eq-eqb _ _ x, new_below s.head g' n' l, or-false) a)

  -- get: what it says of the code's own number
  pub as_got : {a : Answer Place} → place_got s g' n' ≡ a → a ≡ place_got s g n
  as_got e = rw (← eg, ← en) (sym e)

-- set place
module _ (s : Ids) (place : Place) (g n : ℕ) where
  pub set_past : MAX ≤ place.index.0 → place_set s place g n ≡ refused 6
  unfolding place_set ◌or_else◌
  set_past h = simp (le-leb _ _ h)

  pub set_absent : place.index.0 < MAX → live s g n ≡ false → place_set s place g n ≡ refused 2
  unfolding place_set ◌or_else◌
  set_absent h l = simp (lt-leb _ _ h, l)

  pub set_done : (m : ℕ) (archetypes indices : List ℕ) → place.index.0 < MAX → live s g n ≡ true → m ≡ n
      → (archetypes ≡ set s.archetypes m place.archetype) × (indices ≡ set s.indices m place.index.0)
      → Did (place_set s place g n) s (granted tt) (ids_of s.head s.generations archetypes indices s.pending)
  unfolding place_set ◌or_else◌
  set_done m archetypes indices h l e w = rw (w.0, w.1, e) (grant (simp (lt-leb _ _ h, l)))

-- resolve: a generation that is the stored one or 1 is 0 only where it is stored
zero_stored : (b : Bool) (x g : ℕ) → g ≡ cond b x 1 → eqb g 0 ≡ true → (b && eqb x 0) ≡ true
zero_stored true x g e z = rw (← e) z
zero_stored false x g e z = let k = eqb-true g 0 z in absurd (omega arith)

none_stored : (b : Bool) (x g : ℕ) → g ≡ cond b x 1 → eqb g 0 ≡ false → (b && eqb x 0) ≡ false
none_stored true x g e z = rw (← e) z
none_stored false x g e z = refl

module _ (s : Ids) (n fresh : ℕ) (t : granted tt ≡ passing (entry s false)) (f : fresh ≡ new_of s.head.cursor) where
  pub resolve_none : s.head.used + fresh ≤ n → refused 2 ≡ resolving s n
  unfolding resolving ◌or_else◌
  resolve_none h = sym (go (entry s false) _ _ t ∙ simp (le-leb (s.head.used + new_of s.head.cursor) n (rw f at h)))

  -- what `new` said of the generation
  module _ (g : ℕ) (r : Result Handle Refusal) (h : n < s.head.used + fresh) (e : g ≡ cond (ltb n s.head.used) (generation_at s n) 1) (a : handle_of r ≡ new_handle n g) where
    pub resolve_damaged : (x : Refusal) → r ≡ Err x → refused 1 ≡ resolving s n
    unfolding resolving ◌or_else◌
    resolve_damaged x p =
        sym (go (entry s false) _ _ t
        ∙ simp (lt-leb (s.head.used + new_of s.head.cursor) n (rw f at h), zero_stored (ltb n s.head.used) (generation_at s n) g e (new_bad n g r x a p)))

    pub resolve_found : (y : Handle) → r ≡ Ok y → granted y.0 ≡ resolving s n
    unfolding resolving ◌or_else◌
    resolve_found y p =
        let k = new_good n g r y a p in
        sym (go (entry s false) _ _ t
        ∙ simp (lt-leb (s.head.used + new_of s.head.cursor) n (rw f at h), none_stored (ltb n s.head.used) (generation_at s n) g e k.1, ← e, k.0))
