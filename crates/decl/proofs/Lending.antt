-- Where an archetype's part of each table is, for callers that lend it on.
-- Assumes nothing.
use Prim.{tt}
use Prim.Native.Nat.{ℕ, ◌+◌, ◌-◌, ◌*◌, ◌≤◌}
use mathlib.Core.Path.{◌≡◌, refl, sym, ◌∙◌}
use native.Mathlib.Omega.{arith}
use lib.ListN.{length, take, drop}
use Rattle.refusal.specs.Table.{granted, passing}
use Rattle.decl.specs.Lists.{first_of}
use Rattle.decl.specs.Decl.{Decl, archetypes, rows_of, width_of, columns, first_column, types_of, sizes_of, size_of}
use Rattle.decl.specs.Rules.{decl_rules}
use Rattle.decl.specs.Places.{row_width, base_of, column_start, cell_start, span_of, spanned}
use Rattle.decl.specs.Kept.{Shaped}
use Rattle.decl.proofs.Lists.{first_all, first_step, part_lent, part_in_sum}
use Rattle.decl.proofs.Keeping.{columns_all, shaped, declared_shape}
use Rattle.decl.proofs.Spanning.{span_shaped}

module _ (d : Decl) (a : ℕ) where
  -- of a declaration that passes its tests, the span is answered
  pub span_in_lem : granted tt ≡ passing (decl_rules d) → a ≤ archetypes d → granted (span_of d a) ≡ spanned d a
  span_in_lem e h = sym (span_shaped d a (shaped d (declared_shape d e)) h)

  -- its columns stand within the tables of all
  pub columns_in : Shaped d → first_column d a + width_of d a ≤ columns d
  unfolding first_column
  columns_in g = omega (arith, part_in_sum d.widths a, columns_all d g.widths_long)

  module _ (at end : ℕ) (from : at ≡ first_column d a) (to : end ≡ at + width_of d a) where
    ends : end ≡ first_of d.widths (a + 1)
    unfolding first_column
    ends = to ∙ first_step d.widths a at from

    pub types_lent : take (end - at) (drop at d.types) ≡ types_of d a
    unfolding types_of first_column
    types_lent = part_lent d.widths d.types a at end from ends

    pub sizes_lent : take (end - at) (drop at d.sizes) ≡ sizes_of d a
    unfolding sizes_of first_column
    sizes_lent = part_lent d.widths d.sizes a at end from ends

  -- how wide a row is, where a column begins, and a cell
  pub row_width_lem : row_width d a ≡ first_of (sizes_of d a) (length (sizes_of d a))
  unfolding row_width
  row_width_lem = sym (first_all (sizes_of d a) (length (sizes_of d a)) (omega arith))

  pub column_start_lem : (j : ℕ) → column_start d a j ≡ base_of d a + rows_of d a * first_of (sizes_of d a) j
  unfolding column_start first_of
  column_start_lem j = refl

  pub cell_start_lem : (j r : ℕ) → cell_start d a j r ≡ column_start d a j + r * size_of d a j
  unfolding cell_start
  cell_start_lem j r = refl
