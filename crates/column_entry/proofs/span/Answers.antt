-- `column_entry::span` meets its contract: what `span_of` answers, or nothing.
use mathlib.Core.Path.{◌≡◌, refl, ap, ◌∙◌}
use Rattle.std.specs.Prelude.{Result, Ok, Err}
use Rattle.std.specs.Result.{result_unwrap_or}
use Rattle.refusal.specs.declared.Refusal.{Refusal}
use Rattle.refusal.specs.Table.{answer_of, refused}
use Rattle.decl.specs.declared.Span.{Span}
use Rattle.column_entry.specs.Entry.{span_or, span_in}
use Rattle.column_entry.proofs.span.Goals as goal

or_nowhere : (r : Result Span Refusal) → result_unwrap_or r (span_or (refused 0)) ≡ span_or (answer_of r)
or_nowhere (Ok s) = refl
or_nowhere (Err e) = refl

pub returns : goal.returns
unfolding span_in
returns c = c.unwrap_or.ensures ∙ or_nowhere c.span_of.result ∙ ap span_or c.span_of.ensures
