-- `id_tables::IdTables::any_damaged` meets its contract: a number that the tables do not have is damaged, and of the others their entries decide.
use Rattle.std.proofs.Common.{sym, ◌∙◌}
use Rattle.id_tables.proofs.Scanning.{any_outside, any_within, any_inside}
use Rattle.id_tables.proofs.tables.IdTables.any_damaged.Goals as goal

pub returns-then-any_past : goal.returns-then-any_past
returns-then-any_past c = sym (any_outside _ _ _ _ (rw (c.min-limit.ensures, c.min-entries.ensures) at (sym c.any_past.ensures ∙ c.if-any_past.true)))

pub any_unfit-requires : goal.any_unfit-requires
any_unfit-requires c =
    any_within c.args.self.now.head.used c.args.self.now.generations.now c.args.self.now.indices.now c.args.numbers.now (rw (c.min-limit.ensures, c.min-entries.ensures) at (sym c.any_past.ensures ∙ c.if-any_past.false))

pub returns : goal.returns
returns c = c.any_unfit.ensures ∙ any_inside _ _ _ _ (rw (c.min-limit.ensures, c.min-entries.ensures) at (sym c.any_past.ensures ∙ c.if-any_past.false))
