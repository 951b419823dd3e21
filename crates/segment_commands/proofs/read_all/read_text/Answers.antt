use Rattle.std.proofs.Common.{rules, arith}
use Rattle.std.proofs.lemmas.Grind.{common_steps}
use Rattle.std.proofs.lemmas.Result.{err_from_is_err_and}
use Rattle.segment_commands.proofs.read_all.read_text.Goals as goal

pub pieces-preserved : goal.pieces-preserved
pieces-preserved g c = record {
  gave = grind (arith, common_steps);
  ends = grind (arith, common_steps);
  failures = search rules;
  some = grind (arith, common_steps);
  within = search rules;
}

pub returns-in_err-append-in-Ok-clause-text : goal.returns-in_err-append-in-Ok-clause-text
returns-in_err-append-in-Ok-clause-text g c =
    let from = c.from_residual in let p = err_from_is_err_and from.result from.ensures.1 in
    rw (p.1, p.2) (search rules, grind (arith, common_steps))
