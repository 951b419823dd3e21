-- What a command's words are wrong by is told as it is.
use Rattle.std.proofs.Common.{◌≡◌, sym, subst, ◌∙◌, Some}
use Rattle.std.proofs.lemmas.Result.{err_from_is_err_and}
use Rattle.clap.specs.Matches.{found_of}
use Rattle.clap.specs.Walk.{rows_of}
use Rattle.segment_invocation.specs.Invocations.{wrong_by, wrong_in}
use Rattle.segment_invocation.proofs.asking.Refusals.{usage_same}
use Rattle.segment_invocation.proofs.asking.read_found.Goals as goal

pub returns-in_err-read_request-clause-refused : goal.returns-in_err-read_request-clause-refused
returns-in_err-read_request-clause-refused c = λ w e.
    let p = err_from_is_err_and c.from_residual-in_err-read_request.result
    c.from_residual-in_err-read_request.ensures.1 in
    let same : c.in_err-read_request.field-0.0 ≡ w = usage_same _ w p.0 p.2 (sym p.1 ∙ e) in (
      c.in_err-read_request.ensures.read,
      subst (λ v. wrong_by v ≡ Some (wrong_in c.args.name.now
          (rows_of (found_of c.args.words.now)))) same c.in_err-read_request.ensures.error,
    )
