use Rattle.std.specs.Prelude.{IfOk}
use Rattle.segment_dump.specs.Loading.{HasExactCapacities, HasExactIndexes, LetsGoOfDumps, LiesIn}
use Rattle.segment_dump.proofs.Common.{length, subst, MatchResult, IsExact, IsLoaded, IsNotLoaded, cause_in, Succeeds}
use Rattle.std.specs.Prelude.{IfSome}
use Rattle.segment_dump.specs.Loading.{IsLacking}
use Rattle.segment_dump.proofs.loading.load.Goals as goal

pub returns-clause-completion : goal.returns-clause-completion
returns-clause-completion c =
    subst (λ t. MatchResult c.load_lines.result (IsLoaded t c.args.size)
    (IsNotLoaded t c.args.region c.args.base c.args.size (length c.args.room.now))) c.without_notes.ensures
    c.load_lines.ensures.completion

pub returns-clause-exact : goal.returns-clause-exact
returns-clause-exact c = subst (λ t.
    IsExact t (length c.args.region) c.args.base c.args.size (length c.args.room.now)
    (cause_in c.load_lines.result)) c.without_notes.ensures c.load_lines.ensures.exact

pub returns-clause-success : goal.returns-clause-success
returns-clause-success c = subst (λ t.
    Succeeds t (length c.args.region) c.args.base c.args.size (length c.args.room.now) c.load_lines.result)
    c.without_notes.ensures c.load_lines.ensures.success

pub returns-clause-cause : goal.returns-clause-cause
returns-clause-cause c = subst (λ t. IfSome (cause_in c.load_lines.result) (IsLacking t (length c.args.region)
    c.args.base c.args.size (length c.args.room.now))) c.without_notes.ensures c.load_lines.ensures.cause

pub returns-clause-place : goal.returns-clause-place
returns-clause-place c = subst (λ t. IfOk c.load_lines.result (LiesIn t c.args.region c.args.base c.args.size))
    c.without_notes.ensures c.load_lines.ensures.place

pub returns-clause-indexes : goal.returns-clause-indexes
returns-clause-indexes c = subst (λ t. IfOk c.load_lines.result (HasExactIndexes t)) c.without_notes.ensures
    c.load_lines.ensures.indexes

pub returns-clause-region : goal.returns-clause-region
returns-clause-region c = subst (λ t. LetsGoOfDumps t c.load_lines.result) c.without_notes.ensures
    c.load_lines.ensures.region

pub returns-clause-capacities : goal.returns-clause-capacities
returns-clause-capacities c = subst (λ t. IfOk c.load_lines.result (HasExactCapacities t)) c.without_notes.ensures
    c.load_lines.ensures.capacities
