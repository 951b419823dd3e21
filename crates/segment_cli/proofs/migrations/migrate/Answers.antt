use Rattle.std.proofs.lemmas.Result.{err_from_is_err_and}
use Rattle.raw_region.proofs.Laws.{added}
use Rattle.segment_scripts.proofs.Laws.{one_failed}
use Rattle.segment_cli.proofs.sessions.Ends.{appended, prefix_added, none_appended, none_counted, not_written}
use Rattle.segment_cli.proofs.migrations.Outcomes.{migrated, not-migrated, unmigrated}
use Rattle.segment_cli.proofs.migrations.migrate.Goals as goal

pub returns-in_err-segment-clause-migration : goal.returns-in_err-segment-clause-migration
returns-in_err-segment-clause-migration g c =
    let p = err_from_is_err_and c.from_residual.result c.from_residual.ensures.1 in
    rw (p.1, p.2) (not-migrated _ _ _ _ _ c.in_err-segment.field-0.0 c.in_err-segment.ensures.opening
    (not_written (g.W.Sink.history c.args.image_out.now)))

pub returns-clause-migration : goal.returns-clause-migration
returns-clause-migration g c = migrated _ _ _ _ _ c.in_ok-segment.segment c.in_ok-segment.ensures.opening
    c.save.ensures.acceptance (added _ _ _ c.in_ok-save.ensures.output.ok)
    (none_counted _ _ c.in_ok-save.ensures.output.counted)

pub returns-in_err-save-clause-migration : goal.returns-in_err-save-clause-migration
returns-in_err-save-clause-migration g c =
    let from = c.from_residual-in_err-save in let p = err_from_is_err_and from.result from.ensures.1 in
    rw (p.1, p.2) (unmigrated _ _ _ _ _ c.in_ok-segment.segment c.in_ok-segment.ensures.opening
    c.save.ensures.acceptance (prefix_added _ _ _ c.in_err-save.ensures.output.err)
    (one_failed _ _ c.in_err-save.ensures.output.counted))

pub returns-in_err-segment-clause-saved_history : goal.returns-in_err-segment-clause-saved_history
returns-in_err-segment-clause-saved_history g c = none_appended (g.W.Sink.history c.args.image_out.now).bytes

pub returns-clause-saved_history : goal.returns-clause-saved_history
returns-clause-saved_history g c = appended _ _ _ c.in_ok-save.ensures.output.ok

pub returns-in_err-save-clause-saved_history : goal.returns-in_err-save-clause-saved_history
returns-in_err-save-clause-saved_history g c = appended _ _ _ c.in_err-save.ensures.output.err.added

pub returns-in_err-segment-clause-image_history : goal.returns-in_err-segment-clause-image_history
returns-in_err-segment-clause-image_history g c = c.in_err-segment.ensures.history.grows

pub returns-clause-image_history : goal.returns-clause-image_history
returns-clause-image_history g c = c.in_ok-segment.ensures.history.grows

pub returns-in_err-save-clause-image_history : goal.returns-in_err-save-clause-image_history
returns-in_err-save-clause-image_history g c = c.in_ok-segment.ensures.history.grows
