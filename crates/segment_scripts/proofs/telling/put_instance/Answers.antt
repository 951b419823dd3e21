use Rattle.std.proofs.Common.{[], ◌∷◌, ◌++◌, ap, subst, ◌∙◌}
use Rattle.raw_region.specs.Device.{Writes}
use Rattle.segment_lang.specs.Pieces.{piece_text}
use Rattle.segment_lang.specs.Texts.{kind_text, number_text}
use Rattle.segment_scripts.specs.Answer.{class_tokens, handle_text, line}
use Rattle.segment_scripts.specs.Shown.{number_tokens}
use Rattle.segment_scripts.proofs.listing.Instances.{instance-line}
use Rattle.segment_scripts.proofs.telling.put_instance.Goals as goal

pub returns : goal.returns
returns g c =
    let said = c.args.said in
    let told = instance-line said.class said.name.now (kind_text said.kind) (number_text c.from.result)
    (number_text said.handle) c.args.len c.args.capacity
    (piece_text c.class_pieces.result.0) (piece_text c.class_pieces.result.1) (piece_text c.pieces_behind.result.0)
    (piece_text c.pieces_behind.result.1)
    (piece_text c.pieces_behind-2.result.0) (piece_text c.pieces_behind-2.result.1)
    c.class_pieces.ensures c.pieces_behind.ensures c.pieces_behind-2.ensures in
    let counted =
    ap (λ n. line (class_tokens said.class said.name.now
    ++ (kind_text said.kind ∷ number_text n ∷ handle_text said.handle ∷ [])
    ++ (number_tokens c.args.len ++ number_tokens c.args.capacity))) c.from.ensures in
    subst (Writes (g.W.Sink.history c.args.out.now) (g.W.Sink.history c.put_pieces.new.out) c.put_pieces.result)
    (told ∙ counted) c.put_pieces.ensures
