use Rattle.std.proofs.Common.{refl}
use Rattle.std.proofs.lemmas.Result.{err_from_is_err_and}
use Rattle.segment_cli.proofs.sessions.serve.Goals as goal

pub returns-clause-service : goal.returns-clause-service
returns-clause-service g c = record { left = c.in_ok-run_until.ensures.remainder }

pub returns-in_err-run_until-clause-service : goal.returns-in_err-run_until-clause-service
returns-in_err-run_until-clause-service g c =
    let p = err_from_is_err_and c.from_residual.result c.from_residual.ensures.1 in
    rw (p.1, p.2)
    (record { stop = c.in_err-run_until.field-0.0; why = refl; left = c.in_err-run_until.ensures.remainder })
