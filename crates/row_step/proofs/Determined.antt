-- The contracts determine the result and the tables that are left: no second result fits. One instance a function, under its name.
-- Assumes nothing.
use Prim.Native.Nat.{ℕ, ◌+◌}
use mathlib.Core.List.{List}
use mathlib.Core.Option.{Option}
use mathlib.Core.Path.{◌≡◌, refl, sym, ap, ◌∙◌}
use lib.ListN.{get_or, set}
use Rattle.std.specs.Prelude as prelude
use Rattle.std.specs.Prelude.{Some, None}
use Rattle.handle.specs.declared.Number.{Number}
use Rattle.handle.specs.RoundTrip.{same_number}
use Rattle.cells.specs.declared.Line.{Line}
use Rattle.row_step.specs.declared.Block.{Block}
use Rattle.row_step.specs.Tables.{Rows, line_in, moved_of, row_removed}

pub number_at : (numbers : List ℕ) (first row : ℕ) (r s : Number) → r.0 ≡ get_or numbers (first + row) 0 → s.0 ≡ get_or numbers (first + row) 0 → r ≡ s
number_at numbers first row r s d e = same_number r s (d ∙ sym e)

pub line : (k : Block) (row : ℕ) (r s : Line) → r ≡ line_in k row → s ≡ line_in k row → r ≡ s
line k row r s d e = d ∙ sym e

pub set_number : (numbers : List ℕ) (first row n : ℕ) (left left' : List ℕ) → left ≡ set numbers (first + row) n → left' ≡ set numbers (first + row) n → left ≡ left'
set_number numbers first row n left left' d e = d ∙ sym e

-- what the document says was moved is that of one result
pub tells : (r s : prelude.Option Number) → moved_of r ≡ moved_of s → r ≡ s
tells (Some m) (Some n) e = ap Some (same_number m n (cc))
tells (Some m) None e = cc
tells None (Some n) e = cc
tells None None e = refl

pub remove : (k : Block) (sizes : List ℕ) (w : Rows) (a row : ℕ) (r s : prelude.Option Number) (left left' : Rows)
    → (moved_of r, left) ≡ row_removed k sizes w a row → (moved_of s, left') ≡ row_removed k sizes w a row → (r ≡ s) × (left ≡ left')
remove k sizes w a row r s left left' d e =
    let p = d ∙ sym e in
    (tells r s (ap (λ (x : Option ℕ × Rows). x.0) p), ap (λ (x : Option ℕ × Rows). x.1) p)
