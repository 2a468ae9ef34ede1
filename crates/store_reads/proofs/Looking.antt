-- Get: the ways through its rule.
-- Assumes nothing.
use Prim.Native.Nat.{ℕ}
use mathlib.Core.Path.{◌≡◌, refl, sym, ap, ◌∙◌}
use mathlib.Core.Bool.{Bool, true, false}
use mathlib.Core.Option as math
use Rattle.std.specs.Prelude.{Option}
use Rattle.refusal.specs.Table.{Answer, granted, refused, ◌or_else◌}
use Rattle.handle.specs.declared.Place.{Place}
use Rattle.id_tables.specs.Ids.{live}
use Rattle.id_tables.specs.Lookup.{reserved_new}
use Rattle.decl.specs.declared.Span.{Span}
use Rattle.store_tables.specs.Store.{Store}
use Rattle.store_tables.specs.Kept.{Entered}
use Rattle.store_tables.proofs.Places.{owned, not_owned}
use Rattle.store_reads.specs.Component.{◌and_then◌, place_rules}
use Rattle.store_reads.specs.Steps.{place_seen, place_for}
use Rattle.store_reads.specs.Lookup.{place_found}
use Rattle.store_reads.proofs.Locating.{seen, own}

module _ (s : Store) (e : Entered s) (g n : ℕ) where
  place_told : place_found s g n ≡ (seen s e g n and_then (λ p. granted (place_for p)))
  unfolding place_found place_rules ◌or_else◌ place_seen
  place_told = by (live s.ids g n) refl (reserved_new s.ids.head g n) refl (own s e g n) refl
    where
      by : (l : Bool) → live s.ids g n ≡ l → (r : Bool) → reserved_new s.ids.head g n ≡ r → (o : math.Option Span) → own s e g n ≡ o
          → place_found s g n ≡ (seen s e g n and_then (λ p. granted (place_for p)))
      by true l r q math.none p = rw (l, p, not_owned s n e (sym p))
      by true l r q (math.some x) p = rw (l, p, (owned s n e x (sym p)).0)
      by false l true q o p = rw (l, q)
      by false l false q o p = rw (l, q)

  pub get_unseen : {m : ℕ} → refused m ≡ place_seen s.decl s.ids s.rows.numbers s.rows.counts g n → refused m ≡ place_found s g n
  get_unseen h = ap (λ (k : Answer (Option (Place × Span))). k and_then (λ p. granted (place_for p))) h ∙ sym place_told

  pub get_seen : (p q : Option (Place × Span)) → granted p ≡ place_seen s.decl s.ids s.rows.numbers s.rows.counts g n → p ≡ q → granted (place_for q) ≡ place_found s g n
  get_seen p q h f = sym (ap (λ (k : Option (Place × Span)). granted (place_for k)) f) ∙ ap (λ (k : Answer (Option (Place × Span))). k and_then (λ p. granted (place_for p))) h ∙ sym place_told
