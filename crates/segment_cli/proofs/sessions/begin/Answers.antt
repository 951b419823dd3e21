use Rattle.std.proofs.{Common.refl, lemmas.Result.err_from_is_err_and}
use Rattle.raw_region.specs.Device.{read_delta}
use Rattle.segment_cli.proofs.sessions.Start.{created_by, not_created_by, not_opened_by, opened_by, opened_in}
use Rattle.segment_cli.proofs.sessions.Start.{placed_by}
use Rattle.segment_cli.proofs.sessions.Ends.{not_asked}
use Rattle.segment_cli.proofs.sessions.begin.Goals as goal

pub returns-in_err-create-in-Fresh-clause-start : goal.returns-in_err-create-in-Fresh-clause-start
returns-in_err-create-in-Fresh-clause-start g c =
    let Reader = g.I.Source in let p = err_from_is_err_and c.from_residual.result c.from_residual.ensures.1 in
    rw (p.1, p.2, c.in-Fresh.is) (not_created_by c.args.region c.args.base c.in-Fresh.size c.args.mode _ _
    c.create.ensures (not_asked (Reader.history c.args.image.now)) _ c.in_err-create-in-Fresh.was)

pub returns-in_err-open-in-Image-clause-start : goal.returns-in_err-open-in-Image-clause-start
returns-in_err-open-in-Image-clause-start g c =
    let from = c.from_residual-in_err-open-in-Image in let p = err_from_is_err_and from.result from.ensures.1 in
    rw (p.1, p.2, c.in-Image.is) (not_opened_by c.args.region c.args.base c.args.mode _ _
    c.open.ensures.opening _
    c.in_err-open-in-Image.was)

pub returns-in_ok-create-in-Fresh-clause-start : goal.returns-in_ok-create-in-Fresh-clause-start
returns-in_ok-create-in-Fresh-clause-start g c =
    let Reader = g.I.Source in
    rw c.in-Fresh.is (created_by c.args.region c.args.base c.in-Fresh.size c.args.mode _ _ c.create.ensures
    (not_asked (Reader.history c.args.image.now)) _ c.in_ok-create-in-Fresh.was)

pub returns-in_ok-open-in-Image-clause-start : goal.returns-in_ok-open-in-Image-clause-start
returns-in_ok-open-in-Image-clause-start g c = rw c.in-Image.is
    (opened_by c.args.region c.args.base c.args.mode _ _ c.open.ensures.opening _ c.in_ok-open-in-Image.was)

pub returns-in_ok-create-in-Fresh-clause-place : goal.returns-in_ok-create-in-Fresh-clause-place
returns-in_ok-create-in-Fresh-clause-place g c =
    let Reader = g.I.Source in
    rw c.in-Fresh.is (placed_by c.args.region c.args.base c.in-Fresh.size c.args.mode
    (read_delta (Reader.history c.args.image.now) (Reader.history c.args.image.now)) _ c.create.ensures
    (not_asked (Reader.history c.args.image.now)) _ c.in_ok-create-in-Fresh.was)

pub returns-in_ok-open-in-Image-clause-place : goal.returns-in_ok-open-in-Image-clause-place
returns-in_ok-open-in-Image-clause-place g c = rw c.in-Image.is
    (opened_in c.args.region c.args.base c.args.mode _ _ c.open.ensures.opening _ c.in_ok-open-in-Image.was)

pub returns-in_err-create-in-Fresh-clause-image_end : goal.returns-in_err-create-in-Fresh-clause-image_end
returns-in_err-create-in-Fresh-clause-image_end g c = rw c.in-Fresh.is refl

pub returns-in_ok-create-in-Fresh-clause-image_end : goal.returns-in_ok-create-in-Fresh-clause-image_end
returns-in_ok-create-in-Fresh-clause-image_end g c = rw c.in-Fresh.is refl

pub returns-in_err-open-in-Image-clause-image_end : goal.returns-in_err-open-in-Image-clause-image_end
returns-in_err-open-in-Image-clause-image_end g c = rw c.in-Image.is c.open.ensures.ends

pub returns-in_ok-open-in-Image-clause-image_end : goal.returns-in_ok-open-in-Image-clause-image_end
returns-in_ok-open-in-Image-clause-image_end g c = rw c.in-Image.is c.open.ensures.ends
