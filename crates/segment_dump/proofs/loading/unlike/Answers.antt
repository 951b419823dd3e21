use Rattle.segment_dump.proofs.Common.{sym, subst, IsWrong}
use Rattle.segment_dump.proofs.loading.unlike.Goals as goal

pub returns : goal.returns
returns c = record {
  why = subst (IsWrong c.args.text.now) (sym c.let_go.ensures.cause) c.bad_dump.ensures;
  gone = c.let_go.ensures.absent;
}
