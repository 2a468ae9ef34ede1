-- `id_tables::IdTables::is_contained` meets its contract: each return is a way through its rule.
use Rattle.std.proofs.Common.{sym, ◌∙◌}
use Rattle.id_tables.proofs.Looking.{in_new, in_other, in_live, in_old}
use Rattle.id_tables.proofs.Parts.{part_is}
use Rattle.id_tables.proofs.tables.IdTables.is_contained.Goals as goal

pub returns-then-self-number : goal.returns-then-self-number
returns-then-self-number c = in_new _ _ _ _ _ c.generation-generation.ensures c.id-id.ensures c.if-self-number.true c.is_reserved_new.ensures

pub returns-then-at-generation : goal.returns-then-at-generation
returns-then-at-generation c = in_other _ _ _ _ _ c.generation-generation.ensures c.id-id.ensures c.if-self-number.false (λ e. c.if-at-generation.true (c.at.ensures ∙ e))

pub returns-then-at : goal.returns-then-at
returns-then-at c = in_live _ _ _ _ _ c.generation-generation.ensures c.id-id.ensures c.if-self-number.false (sym c.at.ensures ∙ c.if-at-generation.false) (λ e. c.if-at.true (c.at-2.ensures ∙ e))

pub returns : goal.returns
returns c = in_old _ _ _ _ _ c.generation-generation.ensures c.id-id.ensures c.if-self-number.false (sym c.at.ensures ∙ c.if-at-generation.false) (sym c.at-2.ensures ∙ c.if-at.false) (rw (part_is _ _ _, c.free.ensures) at c.has.ensures)
