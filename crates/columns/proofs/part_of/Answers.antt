-- `columns::part_of` meets its contract: what the span says, and the part of the types and the sizes that it names.
use mathlib.Core.Path.{◌∙◌}
use native.Mathlib.Omega.{arith}
use Rattle.columns.proofs.Places.{first_told, base_told, columns_fit, types_fit, types_part, sizes_part}
use Rattle.columns.proofs.part_of.Goals as goal

pub columns_of-requires : goal.columns_of-requires
columns_of-requires c = types_fit _ _ c.requires.kept (omega (arith, c.requires.declared)) _ c.span-span.ensures

pub columns_of-requires-2 : goal.columns_of-requires-2
columns_of-requires-2 c = columns_fit _ _ c.requires.kept (omega (arith, c.requires.declared)) _ c.span-span.ensures

pub returns : goal.returns
returns c = record {
  block = rw (first_told _ _ c.requires.kept (omega (arith, c.requires.declared)) _ c.span-span.ensures, base_told _ _ c.requires.kept (omega (arith, c.requires.declared)) _ c.span-span.ensures);
  types = c.columns_of.ensures ∙ types_part _ _ c.requires.kept (omega (arith, c.requires.declared)) _ c.span-span.ensures;
  sizes = c.columns_of-2.ensures ∙ sizes_part _ _ c.requires.kept (omega (arith, c.requires.declared)) _ c.span-span.ensures;
}
