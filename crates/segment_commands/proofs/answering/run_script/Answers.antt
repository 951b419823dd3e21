use Rattle.std.proofs.Common.{inl, is_ok}
use Rattle.std.proofs.lemmas.Result.{err_from_is_err_and}
use Rattle.segment_commands.proofs.running.ScriptEnds.{end_at_fault}
use Rattle.segment_commands.proofs.answering.run_script.Goals as goal

pub returns-in_err-end-clause-service : goal.returns-in_err-end-clause-service
returns-in_err-end-clause-service g c =
    let p = err_from_is_err_and c.from_residual.result c.from_residual.ensures.1 in
    let same = c.flush-flushed.ensures.unchanged in
    rw (p.1, p.2) (inl (record {
      unserved = rw same c.in_err-end.ensures.service;
      ok = is_ok c.flush-flushed.result;
      flushed = record { before = c.serve-served.new.out; flush = c.flush-flushed.ensures.flush; same = same };
    }))

pub returns-in_err-end-clause-script_end : goal.returns-in_err-end-clause-script_end
returns-in_err-end-clause-script_end g c =
    let p = err_from_is_err_and c.from_residual.result c.from_residual.ensures.1 in
    rw (p.1, p.2, c.in_err-end.ensures.service.why) (end_at_fault _ _ _ c.serve-served.ensures.script_end)
