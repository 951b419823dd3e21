use Rattle.std.proofs.{Common.◌≡◌, Common.sym, Common.◌∙◌, lemmas.Result.err_from_is_err_and}
use Rattle.segment_manager.specs.declared.modes.Mode.TheVariants.{Write}
use Rattle.segment_cli.proofs.sessions.Ends.{prefix_added, image_saved}
use Rattle.segment_cli.proofs.sessions.save_segment.Goals as goal

pub returns-in_err-save-clause-on_error : goal.returns-in_err-save-clause-on_error
returns-in_err-save-clause-on_error g c =
    let p = err_from_is_err_and c.from_residual.result c.from_residual.ensures.1 in
    let writes : c.mode.result ≡ Write = cc in
    rw p.1 (sym c.mode.ensures ∙ writes, prefix_added _ _ _ c.in_err-save.ensures.output.err)

pub returns-in_ok-save-clause-on_ok : goal.returns-in_ok-save-clause-on_ok
returns-in_ok-save-clause-on_ok g c d stands =
    let writes : c.mode.result ≡ Write = cc in
    image_saved _ _ _ _ d (sym c.mode.ensures ∙ writes) c.in_ok-save.ensures.output.ok
    (c.save.ensures.acceptance d stands)
