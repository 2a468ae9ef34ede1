-- Borrow and release of a column: the word that is asked for, and what its rule leaves.
-- Assumes nothing.
use Prim.{tt}
use Prim.Native.Nat.{ℕ, ◌+◌, ◌≤◌, ◌<◌}
use native.Mathlib.Omega.{arith}
use mathlib.Core.Path.{◌≡◌, refl, sym, ap, ◌∙◌}
use mathlib.Core.Bool.{false}
use mathlib.Core.List.{[], ◌∷◌}
use lib.Dec.{leb}
use lib.ListN.{length, get_or, set}
use borrow.Author.Tests.{le-leb, lt-leb}
use Rattle.refusal.specs.Table.{◌when◌, Answer, granted, refused, ◌or_else◌, Did}
use Rattle.refusal.specs.Laws.{not_refused, passed_all, grant, refuse}
use Rattle.decl.specs.Decl.{Decl, archetypes, first_column, types_of}
use Rattle.decl.specs.Places.{span_of}
use Rattle.decl.specs.Lookup.{column_of, searched}
use Rattle.std.specs.Prelude.{Option, Some, None}
use Rattle.decl.specs.declared.Span.{Span}
use Rattle.column_entry.specs.Entry.{span_in}
use Rattle.column_entry.specs.Kept.{Kept}
use Rattle.column_entry.proofs.Keeping.{span_kept}
use Rattle.store_steps.specs.Parts.{part_by}
use Rattle.store_tables.specs.Store.{Store, with_words, entry}
use Rattle.store_tables.proofs.Entering.{entered}
use Rattle.store_reads.specs.Component.{◌and_then◌}
use Rattle.store_reads.specs.Words.{column_word, word_named, word_asked, word_stored, holding}
use Rattle.store_reads.proofs.Cells.{word_in, word_fits, column_named}

-- the column that is named
pub name_place : (d : Decl) (a t : ℕ) → archetypes d ≤ a → refused 6 ≡ word_named d a t
unfolding word_named ◌or_else◌
name_place d a t h = rw (le-leb (archetypes d) a h)

module _ (d : Decl) (a : ℕ) (k : Kept d) (declared : a < archetypes d) (s : Span) (span : s ≡ span_in d a) where
  whole : s ≡ span_of d a
  whole = span ∙ span_kept d a k (omega arith)

  module _ (t : ℕ) (c : Option ℕ) (found : c ≡ searched (part_by d.types s) t) where
    pub name_missing : c ≡ None → refused 15 ≡ word_named d a t
    unfolding word_named ◌or_else◌
    name_missing e = rw (lt-leb (archetypes d) a declared, ← column_named d a k s whole t c found, e)

    pub name_within : (j : ℕ) → c ≡ Some j → s.column + j < length d.types
    name_within j e = word_fits d a k s whole t c found j e

    pub name_found : (j : ℕ) → c ≡ Some j → granted (s.column + j) ≡ word_named d a t
    unfolding word_named ◌or_else◌
    name_found j e =
        rw (lt-leb (archetypes d) a declared, ← column_named d a k s whole t c found, e) (ap (λ (x : Span). granted (x.column + j)) whole)

-- its word is one of those that are lent
module _ (d : Decl) (a t p : ℕ) (k : Kept d) where
  by_column : (c : Option ℕ) → column_of (types_of d a) t ≡ c → granted p ≡ column_word d a c → p < length d.types
  by_column (Some j) e h = let q : p ≡ first_column d a + j = cc in rw q (word_in d a t j k e)
  by_column None e h = absurd (not_refused h)

  named_in : granted p ≡ word_named d a t → p < length d.types
  unfolding word_named
  named_in e = by_column (column_of (types_of d a) t) refl (passed_all (6 when leb (archetypes d) a ∷ []) (column_word d a (column_of (types_of d a) t)) e).1

pub asked_in : (s : Store) (a t p : ℕ) → granted p ≡ word_asked s a t → p < length s.words
unfolding word_asked
asked_in s a t p e =
    let q = passed_all (entry s false) (word_named s.decl a t) e in
    let f = entered s false q.0 in
    omega (arith, named_in s.decl a t p f.rows.tabled.kept q.1, f.words_long, f.rows.tabled.kept.declared.shaped.types_long)

-- what the word's rule says of it is what the call does
module _ (rule : ℕ → Answer ℕ) (s : Store) (a t : ℕ) where
  pub hold_refused : {m : ℕ} → refused m ≡ word_asked s a t → Did (holding rule s a t) s (refused m) s
  unfolding holding
  hold_refused e = refuse (sym (ap (λ (k : Answer ℕ). k and_then (λ at. word_stored s at (rule (get_or s.words at 0)))) e))

  module _ (p : ℕ) (e : granted p ≡ word_asked s a t) where
    -- the rule of the call, at the word
    pub holding_at : holding rule s a t ≡ word_stored s p (rule (get_or s.words p 0))
    unfolding holding
    holding_at = sym (ap (λ (k : Answer ℕ). k and_then (λ at. word_stored s at (rule (get_or s.words at 0)))) e)

    pub hold_stops : {m : ℕ} → refused m ≡ rule (get_or s.words p 0) → Did (holding rule s a t) s (refused m) s
    hold_stops h = refuse (holding_at ∙ sym (ap (word_stored s p) h))

    pub hold_stores : {w : ℕ} → granted w ≡ rule (get_or s.words p 0) → Did (holding rule s a t) s (granted tt) (with_words s (set s.words p w))
    hold_stores h = grant (holding_at ∙ sym (ap (word_stored s p) h))
