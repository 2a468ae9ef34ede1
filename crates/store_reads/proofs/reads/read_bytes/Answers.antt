-- `store_reads::read_bytes` meets its contract: the part that `read` answers, or none.
use mathlib.Core.Path.{sym, ap, ◌∙◌}
use Rattle.refusal.specs.Table.{answer_of}
use Rattle.store_reads.proofs.Reading.{bytes_some}
use Rattle.store_reads.proofs.reads.read_bytes.Goals as goal

pub returns : goal.returns
returns c = bytes_some _ _ _ _ _ _ (sym (ap answer_of c.in-Ok.is) ∙ c.read.ensures) c.part.ensures
