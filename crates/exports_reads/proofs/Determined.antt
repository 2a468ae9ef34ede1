-- The contracts determine the number that a call answers, its four numbers and all that it leaves: no second result fits. One instance a function, under its name.
-- Assumes nothing.
use Prim.Native.Nat.{ℕ}
use mathlib.Core.List.{List}
use Rattle.borrow_word.specs.Word.{shared_word, unique_word, released_word, unique_released_word}
use Rattle.store_tables.specs.Store.{Store}
use Rattle.store_reads.specs.Lookup.{getting, containing, resolving, counting}
use Rattle.store_reads.specs.Read.{reading}
use Rattle.store_reads.specs.Write.{writing}
use Rattle.store_reads.specs.Words.{holding}
use Rattle.crossing.specs.Answers.{number_four, yes_four, place_four, part_four}
use Rattle.crossing.proofs.Sole.{Only, only, PassedAny, passed_any}

pub verdict_store_get : (s : Store) (bits : ℕ) → Only place_four (getting s bits)
verdict_store_get s bits = only place_four (getting s bits)

pub verdict_store_contains : (s : Store) (bits : ℕ) → Only yes_four (containing s bits)
verdict_store_contains s bits = only yes_four (containing s bits)

pub verdict_store_resolve_unknown_gen : (s : Store) (number : ℕ) → Only number_four (resolving s number)
verdict_store_resolve_unknown_gen s number = only number_four (resolving s number)

pub verdict_store_len : (s : Store) → Only number_four (counting s)
verdict_store_len s = only number_four (counting s)

pub verdict_store_read : (s : Store) (bits : ℕ) (kind : ℕ) → Only part_four (reading s bits kind)
verdict_store_read s bits kind = only part_four (reading s bits kind)

pub verdict_store_write : (s : Store) (bits : ℕ) (kind : ℕ) (value : List ℕ) → PassedAny (writing s bits kind value) s
verdict_store_write s bits kind value = passed_any (writing s bits kind value) s

pub verdict_store_borrow : (s : Store) (archetype : ℕ) (kind : ℕ) → PassedAny (holding shared_word s archetype kind) s
verdict_store_borrow s archetype kind = passed_any (holding shared_word s archetype kind) s

pub verdict_store_borrow_mut : (s : Store) (archetype : ℕ) (kind : ℕ) → PassedAny (holding unique_word s archetype kind) s
verdict_store_borrow_mut s archetype kind = passed_any (holding unique_word s archetype kind) s

pub verdict_store_release : (s : Store) (archetype : ℕ) (kind : ℕ) → PassedAny (holding released_word s archetype kind) s
verdict_store_release s archetype kind = passed_any (holding released_word s archetype kind) s

pub verdict_store_release_mut : (s : Store) (archetype : ℕ) (kind : ℕ) → PassedAny (holding unique_released_word s archetype kind) s
verdict_store_release_mut s archetype kind = passed_any (holding unique_released_word s archetype kind) s
