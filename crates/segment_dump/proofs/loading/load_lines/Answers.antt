use Rattle.segment_dump.proofs.loading.Placed.{exact-made, indexes-made, lies-made}
use Rattle.segment_dump.proofs.loading.load_lines.Goals as goal
use Rattle.segment_dump.proofs.{Common.length, Common.cause_in, loading.Success.succeeds-lacking}
use Rattle.segment_dump.proofs.{loading.Success.succeeds-made}
use Rattle.segment_dump.proofs.loading.Judgement.{back-some, exact-done, exact-refused, lacking-made, lacking-refused}
use Rattle.segment_dump.proofs.loading.Judgement.{lacks}

pub returns-in-Some-clause-completion : goal.returns-in-Some-clause-completion
returns-in-Some-clause-completion c = record {
  why = lacks c.args.text.now c.args.region c.args.base c.args.size (length c.args.room.now)
      c.count_dump-counted.result c.refusal_of.result c.in-Some.cause c.count_dump-counted.ensures.count
      c.refusal_of.ensures c.in-Some.is;
  back = back-some c.args.region c.in-Some.cause;
}

pub returns-in-Some-clause-exact : goal.returns-in-Some-clause-exact
returns-in-Some-clause-exact c =
    exact-refused c.args.text.now (length c.args.region) c.args.base c.args.size (length c.args.room.now)
    c.count_dump-counted.result c.refusal_of.result c.in-Some.cause c.count_dump-counted.ensures.count
    c.refusal_of.ensures c.in-Some.is

pub returns-clause-exact : goal.returns-clause-exact
returns-clause-exact c =
    exact-done c.args.text.now (length c.args.region) c.args.base c.args.size (length c.args.room.now)
    c.count_dump-counted.result c.refusal_of.result (cause_in c.make.result) c.count_dump-counted.ensures.count
    c.refusal_of.ensures c.in_default.is c.make.ensures.exact

pub returns-in-Some-clause-success : goal.returns-in-Some-clause-success
returns-in-Some-clause-success c =
    succeeds-lacking c.args.text.now (length c.args.region) c.args.base c.args.size (length c.args.room.now)
    c.count_dump-counted.result c.refusal_of.result c.in-Some.cause _ c.count_dump-counted.ensures.count
    c.refusal_of.ensures c.in-Some.is

pub returns-clause-success : goal.returns-clause-success
returns-clause-success c =
    succeeds-made c.args.text.now (length c.args.region) c.args.base c.args.size (length c.args.room.now)
    c.count_dump-counted.result c.make.result c.count_dump-counted.ensures.count c.make.ensures.success

pub returns-in-Some-clause-cause : goal.returns-in-Some-clause-cause
returns-in-Some-clause-cause c =
    lacking-refused c.args.text.now (length c.args.region) c.args.base c.args.size (length c.args.room.now)
    c.count_dump-counted.result c.refusal_of.result c.in-Some.cause c.count_dump-counted.ensures.steps_lower
    c.count_dump-counted.ensures.count c.refusal_of.ensures c.in-Some.is

pub returns-clause-cause : goal.returns-clause-cause
returns-clause-cause c =
    lacking-made c.args.text.now (length c.args.region) c.args.base c.args.size (length c.args.room.now)
    c.count_dump-counted.result c.refusal_of.result (cause_in c.make.result) c.refusal_of.ensures c.in_default.is
    c.make.ensures.exact

pub returns-clause-place : goal.returns-clause-place
returns-clause-place c =
    lies-made c.args.text.now c.args.region c.args.base c.args.size (length c.args.room.now)
    c.count_dump-counted.result c.make.result c.count_dump-counted.ensures.count (returns-clause-exact c)
    c.make.ensures.place

pub returns-clause-indexes : goal.returns-clause-indexes
returns-clause-indexes c =
    indexes-made c.args.text.now (length c.args.region) c.args.base c.args.size (length c.args.room.now)
    c.count_dump-counted.result c.make.result c.count_dump-counted.ensures.count (returns-clause-exact c)
    c.make.ensures.indexes

pub returns-clause-capacities : goal.returns-clause-capacities
returns-clause-capacities c =
    exact-made c.args.text.now (length c.args.region) c.args.base c.args.size (length c.args.room.now)
    c.count_dump-counted.result c.make.result c.count_dump-counted.ensures.count (returns-clause-exact c)
    c.make.ensures.capacities
