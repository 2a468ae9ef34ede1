-- A reservation as a span, which crosses as four numbers: from and to in the pending list, then the new numbers from and to.
use Rattle.std.specs.Prelude.{ℕ, List}
pub use Rattle.id_readers.specs.Reader.{reserving_span}
use Rattle.crossing.specs.Answers.{four}

abbrev pub span_four : ℕ × ℕ × ℕ × ℕ → List ℕ
span_four v = four v.0 v.1 v.2 v.3
