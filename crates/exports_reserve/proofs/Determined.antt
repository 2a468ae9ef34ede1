-- The contracts determine the number that a call answers, its four numbers and all that it leaves: no second result fits. One instance a function, under its name.
-- Assumes nothing.
use Prim.Native.Nat.{ℕ}
use mathlib.Core.Path.{◌≡◌, ap}
use mathlib.Core.List.{List}
use Rattle.id_tables.specs.Ids.{ids_of}
use Rattle.row_step.specs.Tables.{Rows}
use Rattle.store_tables.specs.Store.{Store, store_of}
use Rattle.store_reserve.specs.Reserve.{reserving, reserving_many, listing_free}
use Rattle.store_flush.specs.Clear.{clearing}
use Rattle.crossing.specs.Words.{head_of}
use Rattle.crossing.specs.Answers.{Passed, number_four}
use Rattle.crossing.proofs.Sole.{Four, passed_one, CrossedAny, crossed_any}
use Rattle.exports_store.proofs.Determined.{CrossedStore, crossed_store_one, PassedStore, passed_store_one, Same, same}

pub verdict_store_reserve_entity : (s : Store) → CrossedStore number_four (reserving s) s
verdict_store_reserve_entity s = crossed_store_one number_four (reserving s) s

pub verdict_store_reserve_entities : (s : Store) (n : ℕ) (handles : List ℕ) (c c' : ℕ) (ws ws' g a x p o g' a' x' p' o' : List ℕ) (w w' : Rows) (f : Four ws) (f' : Four ws')
    → Passed (reserving_many s n handles) (s, handles) c (store_of s.decl (ids_of (head_of ws) g a x p) w s.words, o)
    → Passed (reserving_many s n handles) (s, handles) c' (store_of s.decl (ids_of (head_of ws') g' a' x' p') w' s.words, o')
    → (c ≡ c') × (o ≡ o') × Same s.decl s.words ws ws' g a x p g' a' x' p' w w' f f'
verdict_store_reserve_entities s n handles c c' ws ws' g a x p o g' a' x' p' o' w w' f f' d e =
    let q = passed_one d e in
    (q.0, ap (λ (t : Store × List ℕ). t.1) q.1, same s.decl s.words ws ws' g a x p g' a' x' p' w w' f f' (ap (λ (t : Store × List ℕ). t.0) q.1))

pub verdict_store_freelist : (s : Store) (handles : List ℕ) → CrossedAny number_four (listing_free s handles) handles
verdict_store_freelist s handles = crossed_any number_four (listing_free s handles) handles

pub verdict_store_clear : (s : Store) → PassedStore (clearing s) s
verdict_store_clear s = passed_store_one (clearing s) s
