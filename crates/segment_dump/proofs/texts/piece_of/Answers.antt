use Rattle.segment_dump.proofs.Common.{◌*◌, length, sym, ap, ◌∙◌, arith, drop, take_all}
use Rattle.segment_dump.proofs.texts.piece_of.Goals as goal

pub returns-then-behind-le-PIECE : goal.returns-then-behind-le-PIECE
returns-then-behind-le-PIECE c =
    c.split_at.ensures.back ∙ sym (take_all 1000 (drop (c.args.index * 1000) c.args.text.now) (omega (
      arith,
      c.if-behind-le-PIECE.true,
      ap length c.split_at.ensures.back,
    )))
