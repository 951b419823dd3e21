use Rattle.segment_dump.proofs.loading.Success.{judged-other, judged-unlike, trims-exact, trims-keep}
use Rattle.segment_dump.proofs.loading.judge.Goals as goal

pub returns-in-Err-clause-success : goal.returns-in-Err-clause-success
returns-in-Err-clause-success c =
    judged-other c.args.segment c.trim.new.segment c.args.text.now c.args.said c.args.size c.compare.result _ _
    c.trim.ensures.changes c.compare.ensures.on_error c.in-Err.is

pub returns-else-has_size-clause-success : goal.returns-else-has_size-clause-success
returns-else-has_size-clause-success c =
    judged-unlike c.args.segment c.trim.new.segment c.args.text.now c.args.said c.args.size _ c.trim.ensures.changes
    c.if-has_size.ensures.every

pub returns-then-has_size-clause-indexes : goal.returns-then-has_size-clause-indexes
returns-then-has_size-clause-indexes c =
    trims-keep c.args.segment c.trim.new.segment c.args.size c.trim.ensures.changes

pub returns-then-has_size-clause-capacities : goal.returns-then-has_size-clause-capacities
returns-then-has_size-clause-capacities c =
    trims-exact c.args.segment c.trim.new.segment c.args.size c.trim.ensures.changes
