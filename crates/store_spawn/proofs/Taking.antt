-- The step of a spawn: the id layer gives the next number, which no rule forbids then, and that number takes the row.
-- Assumes nothing.
use Prim.{tt}
use Prim.Native.Nat.{ℕ}
use native.Mathlib.Omega.{arith}
use mathlib.Core.Path.{◌≡◌, sym, ap, ◌∙◌}
use mathlib.Core.List.{List}
use lib.ListN.{get_or}
use Rattle.std.specs.Prelude.{Result, Ok, Err}
use Rattle.std.specs.Result.{IsErrAnd}
use Rattle.std.proofs.lemmas.Result.{err_from_is_err_and}
use Rattle.refusal.specs.Number.{number_of}
use Rattle.refusal.specs.Table.{granted, refused, passing, Did}
use Rattle.refusal.specs.Laws.{grant, stop, go, halted, past, did_granted, did_refused, not_refused}
use Rattle.refusal.specs.declared.Refusal.{Refusal}
use Rattle.handle.specs.Bits.{number_in, place_of}
use Rattle.handle.specs.RoundTrip.{number_back}
use Rattle.id_tables.specs.Ids.{Ids}
use Rattle.ids.specs.Alloc.{allocating}
use Rattle.ids.proofs.Laws.{allocating_at_lem, alloc_leaves}
use Rattle.ids.proofs.Passing.{AllocOk}
use Rattle.decl.specs.Decl.{sizes_of}
use Rattle.decl.specs.declared.Span.{Span}
use Rattle.row_step.specs.Tables.{Rows, count_of}
use Rattle.column_entry.specs.Entry.{span_in, block_in}
use Rattle.column_entry.proofs.Keeping.{span_kept}
use Rattle.store_steps.proofs.Laws.{block_by_lem, sizes_by}
use Rattle.store_steps.specs.Parts.{block_by, part_by}
use Rattle.store_steps.specs.Seats.{seated_rows}
use Rattle.store_tables.specs.Store.{Store, store_of, entry}
use Rattle.store_tables.specs.Run.{run_wrong}
use Rattle.store_tables.specs.Kept.{Entered}
use Rattle.store_tables.proofs.Entering.{entered}
use Rattle.store_spawn.specs.Spawn.{next_number, next_ids, spawn_rules, Spawnable, spawned, spawning}
use Rattle.store_spawn.specs.Seen.{Admits}
use Rattle.store_spawn.proofs.Laws.{spawn_ok, can_alloc}

same_gift : (x y : ℕ × Ids) → granted x ≡ granted y → x ≡ y
same_gift x y e = cc

-- the part of the tables that its archetype has, where the tests have passed, and what the steps then leave
module _ (s : Store) (a : ℕ) (run : List ℕ) (span : Span) (f : Admits s a run (Ok span)) (count : ℕ) (c : count ≡ get_or s.rows.counts a 0) where
  is_entered : Entered s
  unfolding Admits
  is_entered = f.0

  can : AllocOk s.ids (place_of a (count_of s.rows a))
  unfolding Admits
  can = can_alloc s a f.0 (spawn_ok s a f.1)

  allocable : allocating s.ids (place_of a count) ≡ granted (next_ids s a)
  allocable = rw c (allocating_at_lem s.ids (place_of a (count_of s.rows a)) can)

  -- `alloc` does not refuse
  pub gives_there : {m : ℕ} {i : Ids} → Did (allocating s.ids (place_of a count)) s.ids (refused m) i → ⊥
  gives_there d = not_refused (sym allocable ∙ (did_refused (allocating s.ids (place_of a count)) d).0)

  -- what it gave, and what `seat` left
  module _ (bits : ℕ) (i : Ids) (d : Did (allocating s.ids (place_of a count)) s.ids (granted bits) i) (number : ℕ) (q : number ≡ number_in bits)
      (w : Rows) (v : w ≡ seated_rows (block_by s.decl.rows span a) (part_by s.decl.sizes span) s.rows a number run) where
    given : granted (bits, i) ≡ granted (next_ids s a)
    given = sym (did_granted (allocating s.ids (place_of a count)) d) ∙ allocable

    gift : (bits, i) ≡ next_ids s a
    gift = same_gift _ _ given

    number_is : number ≡ next_number s.ids
    number_is =
        let l = alloc_leaves s.ids (place_of a (count_of s.rows a)) can in
        q ∙ (ap number_in (ap (λ (x : ℕ × Ids). x.0) gift ∙ l.bits_are) ∙ number_back _ (next_number s.ids) (omega (arith, l.number_in_lem, is_entered.ids.small)))

    pub has_spawned : Did (spawning s a run) s (granted bits) (store_of s.decl i w s.words)
    unfolding Admits
    has_spawned =
        let t : w ≡ seated_rows (block_in s.decl a) (sizes_of s.decl a) s.rows a (next_number s.ids) run =
        rw (block_by_lem s.decl a span f.2, sizes_by s.decl a span f.2, number_is) at v in
        rw (ap (λ (x : ℕ × Ids). x.0) gift, ap (λ (x : ℕ × Ids). x.1) gift, t) (grant f.3)

-- the tests, as the code has run them
module _ (s : Store) (a : ℕ) (run : List ℕ) where
  pub refuses : (r : Result Span Refusal) (x : Refusal) → IsErrAnd r (λ y. y ≡ x) → spawning s a run ≡ refused (number_of x) → Admits s a run r
  unfolding Admits
  refuses r x h e = let p = err_from_is_err_and r h in rw (p.1, p.2) e

  pub first_refuse : {m : ℕ} → refused m ≡ passing (entry s (run_wrong s.decl a run)) → spawning s a run ≡ refused m
  unfolding spawning
  first_refuse e = stop (entry s (run_wrong s.decl a run)) (spawn_rules s a) _ e

  module _ (e : granted tt ≡ passing (entry s (run_wrong s.decl a run))) where
    pub then_refuse : {m : ℕ} → refused m ≡ passing (spawn_rules s a) → spawning s a run ≡ refused m
    unfolding spawning
    then_refuse h = go (entry s (run_wrong s.decl a run)) (spawn_rules s a) _ e ∙ halted (spawn_rules s a) _ h

    pub then_grant : Spawnable s a → spawning s a run ≡ spawned s a run
    unfolding spawning
    then_grant h = go (entry s (run_wrong s.decl a run)) (spawn_rules s a) _ e ∙ past (spawn_rules s a) _ h

    pub admits : (span : Span) → span ≡ span_in s.decl a → Spawnable s a → Admits s a run (Ok span)
    unfolding Admits
    admits span p k =
        let r = entered s _ e in
        (r, k, p ∙ span_kept s.decl a r.rows.tabled.kept (omega (arith, (spawn_ok s a k).archetype_in)), then_grant k)

pub refused_so : (s : Store) (a : ℕ) (run : List ℕ) (x : Refusal) → Admits s a run (Err x) → spawning s a run ≡ refused (number_of x)
unfolding Admits
refused_so s a run x f = f
