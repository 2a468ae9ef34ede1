-- `crossing::put_head` meets its contract: the bits of a number, read back, are the number.
use Rattle.std.proofs.Common.{◌≡◌, sym, ap, ◌∙◌, rules, w64, to_z, of_z}
use mir.Val.{SFits}
use mir.Facts.{to_z-of_z}
use Rattle.crossing.proofs.Heads.{written}
use Rattle.crossing.proofs.Signed.{read_as}
use Rattle.crossing.proofs.words.put_head.Goals as goal

pub returns : goal.returns
returns c =
    let fits : SFits w64 c.args.head.cursor = search rules in
    written c.args.head _ fits (sym (read_as _) ∙ ap (to_z w64) c.cast_unsigned.ensures ∙ ap (λ z. to_z w64 (of_z w64 z)) (to_z-of_z fits))
