-- `id_tables::IdTables::is_damaged` meets its contract: each return rewrites with the tests that led there.
use Rattle.std.proofs.Common.{eq-eqb, ne_eqb, le-leb}
use borrow.Author.Tests.{lt-leb}
use Rattle.id_tables.specs.Ids.{damaged_in}
use Rattle.id_tables.proofs.tables.IdTables.is_damaged.Goals as goal

pub returns-then-self-number : goal.returns-then-self-number
unfolding damaged_in
returns-then-self-number c = simp (le-leb _ _ c.if-self-number.true)

pub returns-then-at-eq0 : goal.returns-then-at-eq0
unfolding damaged_in
returns-then-at-eq0 c = simp (lt-leb _ _ c.if-self-number.false, ← c.at.ensures, eq-eqb _ _ c.if-at-eq0.true)

pub returns : goal.returns
unfolding damaged_in
returns c = simp (lt-leb _ _ c.if-self-number.false, ← c.at.ensures, ne_eqb _ _ c.if-at-eq0.false, ← c.at-2.ensures)
