-- The contracts determine the results and what is left: no second one fits. One instance a function, under its name.
-- Assumes nothing.
use Prim.{Unit}
use Prim.Native.Nat.{ℕ}
use mathlib.Core.Bool.{Bool}
use mathlib.Core.Path.{◌≡◌, sym, ap, ◌∙◌}
use mathlib.Core.List.{List}
use Rattle.std.specs.Prelude.{Result}
use Rattle.refusal.specs.Table.{Answer, answer_of, Did}
use Rattle.refusal.specs.Laws.{sole_answer, sole}
use Rattle.refusal.specs.Distinct.{tells}
use Rattle.refusal.specs.declared.Refusal.{Refusal}
use Rattle.handle.specs.Bits.{handle_of}
use Rattle.handle.specs.RoundTrip.{tells as handle_tells}
use Rattle.handle.specs.declared.Handle.{Handle}
use Rattle.handle.specs.declared.Number.{Number}
use Rattle.handle.specs.declared.Place.{Place}
use Rattle.borrow_word.specs.Word.{shared_word, unique_word, released_word, unique_released_word}
use Rattle.row_step.specs.Tables.{tables_of}
use Rattle.store_tables.specs.Store.{Store, with_rows, with_words}
use Rattle.store_reads.specs.Read.{reading, bytes_at}
use Rattle.store_reads.specs.Write.{writing}
use Rattle.store_reads.specs.Words.{holding}
use Rattle.store_reads.specs.Lookup.{getting, containing, resolving, counting}

-- the calls that change nothing lent
module _ (s : Store) where
  pub read : (bits t : ℕ) (r r' : Result (ℕ × ℕ) Refusal) → answer_of r ≡ reading s bits t → answer_of r' ≡ reading s bits t → r ≡ r'
  read bits t r r' d e = sole_answer answer_of tells r r' d e

  pub read_bytes_lem : (bits t : ℕ) (r r' : List ℕ) → r ≡ bytes_at s.rows.bytes (reading s bits t) → r' ≡ bytes_at s.rows.bytes (reading s bits t) → r ≡ r'
  read_bytes_lem bits t r r' d e = d ∙ sym e

  pub get : (bits : ℕ) (r r' : Result Place Refusal) → answer_of r ≡ getting s bits → answer_of r' ≡ getting s bits → r ≡ r'
  get bits r r' d e = sole_answer answer_of tells r r' d e

  pub contains : (bits : ℕ) (r r' : Result Bool Refusal) → answer_of r ≡ containing s bits → answer_of r' ≡ containing s bits → r ≡ r'
  contains bits r r' d e = sole_answer answer_of tells r r' d e

  pub resolve_unknown_gen_lem : (number : Number) (r r' : Result Handle Refusal) → handle_of r ≡ resolving s number.0 → handle_of r' ≡ resolving s number.0 → r ≡ r'
  resolve_unknown_gen_lem number r r' d e = sole_answer handle_of handle_tells r r' d e

  pub len : (r r' : Result ℕ Refusal) → answer_of r ≡ counting s → answer_of r' ≡ counting s → r ≡ r'
  len r r' d e = sole_answer answer_of tells r r' d e

  -- and those that change the bytes, or the words
  abbrev with_bytes : List ℕ → Store
  with_bytes b = with_rows s (tables_of s.rows.numbers s.rows.counts b)

  pub write : (bits t : ℕ) (value : List ℕ) (r r' : Result (Unit {0}) Refusal) (b b' : List ℕ) → Did (writing s bits t value) s (answer_of r) (with_bytes b)
      → Did (writing s bits t value) s (answer_of r') (with_bytes b') → (r ≡ r') × (b ≡ b')
  write bits t value r r' b b' d e = let p = sole answer_of tells r r' d e in (p.0, ap (λ (x : Store). x.rows.bytes) p.1)

  -- one result and one table of words
  abbrev OneWord : (ℕ → Answer ℕ) → Type 0
  OneWord rule =
      (a t : ℕ) (r r' : Result (Unit {0}) Refusal) (w w' : List ℕ) → Did (holding rule s a t) s (answer_of r) (with_words s w)
      → Did (holding rule s a t) s (answer_of r') (with_words s w') → (r ≡ r') × (w ≡ w')

  held : (rule : ℕ → Answer ℕ) → OneWord rule
  held rule a t r r' w w' d e = let p = sole answer_of tells r r' d e in (p.0, ap (λ (x : Store). x.words) p.1)

  pub borrow : OneWord shared_word
  borrow = held shared_word

  pub borrow_mut : OneWord unique_word
  borrow_mut = held unique_word

  pub release : OneWord released_word
  release = held released_word

  pub release_mut : OneWord unique_released_word
  release_mut = held unique_released_word
