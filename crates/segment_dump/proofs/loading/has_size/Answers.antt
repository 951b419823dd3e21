use Rattle.segment_dump.proofs.loading.has_size.Goals as goal
use Rattle.segment_dump.proofs.{loading.Judgement.has-size, loading.Judgement.is-full, loading.Success.sizes-none}
use Rattle.segment_dump.proofs.{loading.Success.sizes-some}

pub returns-in-Some-clause-content : goal.returns-in-Some-clause-content
returns-in-Some-clause-content c =
    has-size c.args.segment.now c.size.result c.in-Some.size c.size.ensures.answers c.args.size c.in-Some.is

pub returns-in-Some-clause-every : goal.returns-in-Some-clause-every
returns-in-Some-clause-every c =
    sizes-some c.args.segment.now c.size.result c.in-Some.size c.size.ensures.answers c.args.size c.in-Some.is

pub returns-in-None-clause-content : goal.returns-in-None-clause-content
returns-in-None-clause-content c =
    is-full c.args.segment.now c.free.result c.free.ensures.answers c.args.size c.in-None.is

pub returns-in-None-clause-every : goal.returns-in-None-clause-every
returns-in-None-clause-every c =
    sizes-none c.args.segment.now c.free.result c.free.ensures.answers c.args.size c.in-None.is
