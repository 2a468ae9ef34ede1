-- `id_tables::IdTables::is_live` meets its contract: each return rewrites with the tests that led there.
use Rattle.std.proofs.Common.{le-ltb, lt-ltb, eq-eqb, ne_eqb}
use Rattle.id_tables.specs.Ids.{live_in}
use Rattle.id_tables.proofs.tables.IdTables.is_live.Goals as goal

pub returns-then-self-number : goal.returns-then-self-number
unfolding live_in
returns-then-self-number c = simp (le-ltb _ _ c.if-self-number.true)

pub returns-then-at-generation : goal.returns-then-at-generation
unfolding live_in
returns-then-at-generation c = simp (lt-ltb _ _ c.if-self-number.false, ← c.at.ensures, ne_eqb _ _ c.if-at-generation.true)

pub returns : goal.returns
unfolding live_in
returns c = simp (lt-ltb _ _ c.if-self-number.false, ← c.at.ensures, eq-eqb _ _ c.if-at-generation.false, ← c.at-2.ensures)
