-- What is left of the text decides, for an output of the same length.
use Rattle.std.proofs.Common.{◌≡◌, length, drop, fold}
use Rattle.replay_line.specs.Text.{reading, read, read_from}
use Rattle.replay_line.proofs.text.numbers.Given as goal

abbrev pub invariant-loop-byte : goal.invariant-loop-byte
invariant-loop-byte l =
    (read_from l.text l.fn.out ≡ fold read (reading l.out l.told.count l.told.value) (drop l.byte-index l.text)) × (length l.out ≡ length l.fn.out)
