-- The contracts determine the result and the tables that are left: no second result fits. One instance a function, under its name.
-- Assumes nothing.
use Prim.{Unit}
use Prim.Native.Nat.{ℕ}
use mathlib.Core.List.{List}
use mathlib.Core.Path.{◌≡◌, sym, ◌∙◌}
use Rattle.std.specs.Prelude.{Option, Result}
use Rattle.refusal.specs.declared.Refusal.{Refusal}
use Rattle.refusal.specs.Table.{Answer, Did, answer_of}
use Rattle.refusal.specs.Laws.{sole_answer, sole}
use Rattle.refusal.specs.Distinct.{tells, tells_by}
use Rattle.handle.specs.declared.Number.{Number}
use Rattle.handle.specs.declared.Row.{Row}
use Rattle.decl.specs.Decl.{Decl}
use Rattle.row_step.specs.Tables.{Rows, moved_of}
use Rattle.row_step.proofs.Determined.{tells as moved_tells}
use Rattle.columns.specs.Calls.{allocated_of, removed_of, allocated_in, removed_in, moved_out, put_in, got_in, ids_in, part_for}

-- an answer of the document is that of one result
allocated_tells : (r s : Result Row Refusal) → allocated_of r ≡ allocated_of s → r ≡ s
allocated_tells = tells_by (λ (x : Row). x.0) (λ x y q i. record { 0 = q i })

removed_tells : (r s : Result (Option Number) Refusal) → removed_of r ≡ removed_of s → r ≡ s
removed_tells = tells_by moved_of moved_tells

pub allocate : (d : Decl) (w : Rows) (a n : ℕ) (r s : Result Row Refusal) (left left' : Rows) → Did (allocated_in d w a n) w (allocated_of r) left
    → Did (allocated_in d w a n) w (allocated_of s) left' → (r ≡ s) × (left ≡ left')
allocate d w a n r s left left' p q = sole allocated_of allocated_tells r s p q

pub remove : (d : Decl) (w : Rows) (a row : ℕ) (r s : Result (Option Number) Refusal) (left left' : Rows) → Did (removed_in d w a row) w (removed_of r) left
    → Did (removed_in d w a row) w (removed_of s) left' → (r ≡ s) × (left ≡ left')
remove d w a row r s left left' p q = sole removed_of removed_tells r s p q

pub move_out : (d : Decl) (w : Rows) (out : List ℕ) (a row : ℕ) (r s : Result (Option Number) Refusal) (left left' : Rows × List ℕ) → Did (moved_out d w out a row) (w, out) (removed_of r) left
    → Did (moved_out d w out a row) (w, out) (removed_of s) left' → (r ≡ s) × (left ≡ left')
move_out d w out a row r s left left' p q = sole removed_of removed_tells r s p q

pub put : (d : Decl) (w : Rows) (a row t : ℕ) (vs : List ℕ) (r s : Result (Unit {0}) Refusal) (left left' : Rows) → Did (put_in d w a row t vs) w (answer_of r) left
    → Did (put_in d w a row t vs) w (answer_of s) left' → (r ≡ s) × (left ≡ left')
put d w a row t vs r s left left' p q = sole answer_of tells r s p q

-- one place
abbrev OnePlace : Answer (ℕ × ℕ) → Type 0
OnePlace rule = (r s : Result (ℕ × ℕ) Refusal) → answer_of r ≡ rule → answer_of s ≡ rule → r ≡ s

place : (rule : Answer (ℕ × ℕ)) → OnePlace rule
place rule r s p q = sole_answer answer_of tells r s p q

pub get : (d : Decl) (w : Rows) (a row t : ℕ) → OnePlace (got_in d w a row t)
get d w a row t = place (got_in d w a row t)

pub ids : (d : Decl) (w : Rows) (a : ℕ) → OnePlace (ids_in d w a)
ids d w a = place (ids_in d w a)

-- one part
abbrev OnePart : List ℕ → Type 0
OnePart part = (r s : List ℕ) → r ≡ part → s ≡ part → r ≡ s

pub get_bytes : (d : Decl) (w : Rows) (a row t : ℕ) → OnePart (part_for (got_in d w a row t) w.bytes)
get_bytes d w a row t r s p q = p ∙ sym q

pub ids_part : (d : Decl) (w : Rows) (a : ℕ) → OnePart (part_for (ids_in d w a) w.numbers)
ids_part d w a r s p q = p ∙ sym q
