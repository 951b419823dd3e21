use Rattle.segment_dump.proofs.loading.Dropped.{begins, on-err}
use Rattle.segment_dump.proofs.loading.Success.{good-exact, good-indexed, good-placed}
use Rattle.segment_dump.proofs.loading.make.Goals as goal
use Rattle.segment_dump.proofs.{Common.length, Common.refl, loading.Judgement.back-some, loading.Judgement.judged}
use Rattle.segment_dump.proofs.{loading.Judgement.unlacking, loading.Judgement.wrong-why}
use Rattle.segment_dump.proofs.loading.Success.{good-judged, good-no_prefix, good-unbuilt, good-uncreated}

pub returns-in-Err-clause-completion : goal.returns-in-Err-clause-completion
returns-in-Err-clause-completion c =
    record {
      why = wrong-why c.args.text.now c.args.region c.args.base c.args.size (length c.args.room.now) _
          c.bad_dump.ensures;
      back = back-some c.args.region c.bad_dump.result;
    }

pub returns-in-Err-clause-success : goal.returns-in-Err-clause-success
returns-in-Err-clause-success c =
    good-no_prefix c.args.text.now (length c.args.region) c.args.base c.args.size (length c.args.room.now)
    c.args.counted c.new-lines.result c.read_prefix.new.lines c.read_prefix.result _ _ c.new-lines.ensures
    c.read_prefix.ensures.reading c.in-Err.is

pub returns-in-Err-create-clause-success : goal.returns-in-Err-create-clause-success
returns-in-Err-create-clause-success c =
    good-uncreated c.args.text.now (length c.args.region) c.args.base c.args.size (length c.args.room.now)
    c.args.counted c.args.region c.asked_size-asked.result c.declared_size.result c.create.result _ _ refl
    c.declared_size.ensures c.asked_size-asked.ensures.value c.create.ensures c.in-Err-create.is

pub returns-in-Err-make_objects-clause-success : goal.returns-in-Err-make_objects-clause-success
returns-in-Err-make_objects-clause-success c =
    good-unbuilt c.args.text.now (length c.args.region) c.args.base c.args.size (length c.args.room.now)
    c.args.counted _ _ c.args.region c.new-lines.result c.read_prefix.new.lines c.in-Ok.prefix
    c.asked_size-asked.result c.declared_size.result c.in-Ok-create.segment c.make_objects.new.segment
    c.make_objects.result
    c.read_prefix.result c.create.result c.new-lines.ensures c.read_prefix.ensures.reading c.in-Ok.is
    c.declared_size.ensures
    c.asked_size-asked.ensures.value c.create.ensures c.in-Ok-create.is c.make_objects.ensures.objects _ _
    c.in-Err-make_objects.is

pub returns-clause-completion : goal.returns-clause-completion
returns-clause-completion c = judged c.args.text.now c.args.region c.args.base c.args.size (length c.args.room.now)
    c.judge.result c.judge.ensures.completion

pub returns-clause-success : goal.returns-clause-success
returns-clause-success c =
    good-judged c.args.text.now (length c.args.region) c.args.base c.args.size (length c.args.room.now)
    c.args.counted _ _ c.args.region c.new-lines.result c.read_prefix.new.lines c.in-Ok.prefix
    c.asked_size-asked.result c.declared_size.result c.in-Ok-create.segment c.make_objects.new.segment
    c.make_objects.result
    c.read_prefix.result c.create.result c.new-lines.ensures c.read_prefix.ensures.reading c.in-Ok.is
    c.declared_size.ensures
    c.asked_size-asked.ensures.value c.create.ensures c.in-Ok-create.is c.make_objects.ensures.objects _
    c.judge.ensures.success

-- ---- what is lacking

pub returns-in-Err-clause-exact : goal.returns-in-Err-clause-exact
returns-in-Err-clause-exact c = unlacking c.args.text.now (length c.args.region) c.args.base c.args.size
    (length c.args.room.now) c.args.counted c.bad_dump.result c.bad_dump.ensures

pub returns-in-Err-create-clause-exact : goal.returns-in-Err-create-clause-exact
returns-in-Err-create-clause-exact c = unlacking c.args.text.now (length c.args.region) c.args.base c.args.size
    (length c.args.room.now) c.args.counted c.not_created.result.cause c.not_created.ensures.cause

pub returns-in-Err-make_objects-clause-exact : goal.returns-in-Err-make_objects-clause-exact
returns-in-Err-make_objects-clause-exact c =
    rw c.let_go.ensures.cause (unlacking c.args.text.now (length c.args.region) c.args.base c.args.size
    (length c.args.room.now) c.args.counted c.cause_of.result c.cause_of.ensures)

-- ---- where it lies

pub returns-clause-place : goal.returns-clause-place
returns-clause-place c =
    good-placed c.args.text.now (length c.args.region) c.args.base c.args.size (length c.args.room.now)
    c.args.counted _ _ c.args.region c.new-lines.result c.read_prefix.new.lines c.in-Ok.prefix
    c.asked_size-asked.result c.declared_size.result c.in-Ok-create.segment c.make_objects.new.segment
    c.make_objects.result
    c.read_prefix.result c.create.result c.new-lines.ensures c.read_prefix.ensures.reading c.in-Ok.is
    c.declared_size.ensures
    c.asked_size-asked.ensures.value c.create.ensures c.in-Ok-create.is c.make_objects.ensures.objects _ refl
    c.make_objects.ensures.place c.judge.ensures.place

pub returns-clause-indexes : goal.returns-clause-indexes
returns-clause-indexes c =
    good-indexed c.args.text.now (length c.args.region) c.args.base c.args.size (length c.args.room.now)
    c.args.counted _ _ c.args.region c.new-lines.result c.read_prefix.new.lines c.in-Ok.prefix
    c.asked_size-asked.result c.declared_size.result c.in-Ok-create.segment c.make_objects.new.segment
    c.make_objects.result
    c.read_prefix.result c.create.result c.new-lines.ensures c.read_prefix.ensures.reading c.in-Ok.is
    c.declared_size.ensures
    c.asked_size-asked.ensures.value c.create.ensures c.in-Ok-create.is c.make_objects.ensures.objects _
    c.judge.ensures.indexes

pub returns-clause-capacities : goal.returns-clause-capacities
returns-clause-capacities c =
    good-exact c.args.text.now (length c.args.region) c.args.base c.args.size (length c.args.room.now)
    c.args.counted _ _ c.args.region c.new-lines.result c.read_prefix.new.lines c.in-Ok.prefix
    c.asked_size-asked.result c.declared_size.result c.in-Ok-create.segment c.make_objects.new.segment
    c.make_objects.result
    c.read_prefix.result c.create.result c.new-lines.ensures c.read_prefix.ensures.reading c.in-Ok.is
    c.declared_size.ensures
    c.asked_size-asked.ensures.value c.create.ensures c.in-Ok-create.is c.make_objects.ensures.objects _
    c.judge.ensures.capacities

-- ---- whether the region comes back

pub returns-in-Err-make_objects-clause-region : goal.returns-in-Err-make_objects-clause-region
returns-in-Err-make_objects-clause-region c = λ gone.
    begins c.args.text.now c.new-lines.result c.read_prefix.result c.in-Ok.prefix c.read_prefix.ensures.prefix
    c.in-Ok.is c.new-lines.ensures

pub returns-clause-region : goal.returns-clause-region
returns-clause-region c = on-err c.judge.result (λ refused gone.
    begins c.args.text.now c.new-lines.result c.read_prefix.result c.in-Ok.prefix c.read_prefix.ensures.prefix
    c.in-Ok.is c.new-lines.ensures)
