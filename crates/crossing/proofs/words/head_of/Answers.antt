-- `crossing::head_of` meets its contract.
use Rattle.std.proofs.Common.{◌∙◌}
use Rattle.crossing.proofs.Heads.{taken}
use Rattle.crossing.proofs.Signed.{read_as}
use Rattle.crossing.proofs.words.head_of.Goals as goal

pub returns : goal.returns
returns c = taken _ _ (record { sfits = c.cast_signed.type_inv }) (c.cast_signed.ensures ∙ read_as _)
