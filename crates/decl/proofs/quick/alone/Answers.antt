-- `decl::quick::alone` meets its contract: where the one archetype's columns ascend and are not too large, the rules are kept.
use Rattle.decl.proofs.Alone.{alone_settles}
use Rattle.decl.proofs.quick.alone.Goals as goal

pub returns : goal.returns
returns c =
    alone_settles _ c.requires.0 c.requires.1 c.requires.2 c.requires.3 c.if-types-eq0.false c.if-widths-gt-COLUMNS.false c.if-types-widths.false c.if-rows-gt-ROWS.false c.if-rows-gt-ROWS-2.false
    c.in_ok-width.ensures
