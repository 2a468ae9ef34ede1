-- `decl::Declaration::part_of` meets its contract: a limit that is passed decides, and where none does the part is told.
use native.Mathlib.Omega.{arith}
use Rattle.decl.proofs.Spanning.{wide_refused, long_refused, past_refused, all_fit, part_bytes}
use Rattle.decl.proofs.Declaration.part_of.Goals as goal

pub returns-then-columns : goal.returns-then-columns
returns-then-columns c = record { told = wide_refused _ _ _ _ (omega (arith, c.if-columns.true, c.at-columns.ensures)) }

pub returns-then-rows : goal.returns-then-rows
returns-then-rows c = record { told = long_refused _ _ _ _ (omega (arith, c.if-columns.false, c.at-columns.ensures)) (omega (arith, c.if-rows.true, c.at-rows.ensures)) }

pub returns-then-self-end : goal.returns-then-self-end
returns-then-self-end c =
    record {
      told = past_refused _ _ _ _ (omega (arith, c.if-columns.false, c.at-columns.ensures)) (omega (arith, c.if-rows.false, c.at-rows.ensures)) (omega (arith, c.if-self-end.true, c.at-columns.ensures));
    }

pub returns : goal.returns
returns c =
    record {
      told =
          record {
            fits = all_fit _ _ _ _ (omega (arith, c.if-columns.false, c.at-columns.ensures)) (omega (arith, c.if-rows.false, c.at-rows.ensures)) (omega (arith, c.if-self-end.false, c.at-columns.ensures));
            rows_are = c.at-rows.ensures;
            columns_are = c.at-columns.ensures;
            bytes_are = c.total-bytes.ensures.0;
            bytes_in = part_bytes c.args.column c.at-columns.result c.args.self.now.sizes.now c.total-bytes.ensures.1 c.if-columns.false;
          };
    }
