-- `handle::bits_of` meets its contract: nothing is shifted out, and the halves have no digit in common.
use borrow.Author.Rules.{rules}
use lib.Bits.{or_shifted}
use lib.Pow.{shl_exact}
use lib.Dec.{lit≤}
use Rattle.handle.proofs.bits_of.Goals as goal

pub returns : goal.returns
returns c = rw (shl_exact 32 32 64 c.ranges.generation.fits (lit≤ tt)) (or_shifted c.args.generation 32 c.args.number.0 (search rules))
