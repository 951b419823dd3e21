use Rattle.raw_region.proofs.Laws.{SameSurroundings-trans}
use Rattle.segment_dump.proofs.Common.{arith, length, refl, ◌∙◌, false≢true}
use Rattle.segment_dump.proofs.building.Objects.{as-long, build-cut, build-end, build-long, build-more, build-no_line}
use Rattle.segment_dump.proofs.building.Objects.{build-start}
use Rattle.segment_dump.proofs.building.build.Goals as goal

pub objects-init : goal.objects-init
objects-init c = (
  build-start c.args.segment.now c.args.lines.now c.args.most (length c.args.room.now),
  refl,
  record { before = refl; after = refl },
)

pub returns-in_err-tokens-clause-objects : goal.returns-in_err-tokens-clause-objects
returns-in_err-tokens-clause-objects c =
    build-no_line c.args.segment.now c.objects.segment c.args.lines.now c.objects.lines
    c.args.most (length c.args.room.now) c.objects.counter c.objects.invariant.0 c.objects.segment _
    c.next_line.new.self c.from_residual.result c.in_err-tokens.ensures.line

pub returns-then-are-clause-objects : goal.returns-then-are-clause-objects
returns-then-are-clause-objects c =
    build-end c.args.segment.now c.objects.segment c.args.lines.now c.objects.lines c.args.most
    (length c.args.room.now) c.objects.counter c.objects.invariant.0 c.next_line.new.self c.in_ok-tokens.tokens
    c.finish.result c.in_ok-tokens.ensures.line (c.if-are.ensures.0 refl) c.finish.ensures

pub returns-in_err-build_object-clause-objects : goal.returns-in_err-build_object-clause-objects
returns-in_err-build_object-clause-objects c =
    build-cut c.args.segment.now c.objects.segment c.args.lines.now c.objects.lines c.args.most
    (length c.args.room.now) c.objects.counter c.objects.invariant.0 c.build_object.new.segment
    c.build_object.new.segment c.next_line.new.self c.in_ok-tokens.tokens c.build_object.new.lines _
    c.from_residual-in_err-build_object.result c.in_ok-tokens.ensures.line (λ e. false≢true (c.if-are.ensures.1 e))
    (as-long c.objects.segment c.build_object.new.segment c.in_ok-tokens.tokens c.next_line.new.self
    c.build_object.new.lines (length c.objects.room) (length c.args.room.now) _ c.objects.invariant.1
    c.in_err-build_object.ensures.object)

pub objects-preserved : goal.objects-preserved
objects-preserved c = (
  build-more c.args.segment.now c.objects.segment c.args.lines.now c.objects.lines c.args.most
      (length c.args.room.now) c.objects.counter c.objects.invariant.0 c.build_object.new.segment
      c.next_line.new.self c.in_ok-tokens.tokens c.build_object.new.lines c.in_ok-build_object.field-0
      c.in_ok-tokens.ensures.line (λ e. false≢true (c.if-are.ensures.1 e))
      (as-long c.objects.segment c.build_object.new.segment c.in_ok-tokens.tokens c.next_line.new.self
      c.build_object.new.lines (length c.objects.room) (length c.args.room.now) _ c.objects.invariant.1
      c.in_ok-build_object.ensures.object),
  c.build_object.auto.room ∙ c.objects.invariant.1,
  SameSurroundings-trans _ _ _ c.objects.invariant.2 c.in_ok-build_object.ensures.place,
)

pub returns-clause-objects : goal.returns-clause-objects
returns-clause-objects c =
    build-long c.args.segment.now c.objects.segment c.args.lines.now c.objects.lines c.args.most
    (length c.args.room.now) c.objects.counter c.objects.invariant.0 c.objects.segment _ (omega (
      arith,
      c.objects-test.false,
    ))

pub returns-in_err-tokens-clause-place : goal.returns-in_err-tokens-clause-place
returns-in_err-tokens-clause-place c = c.objects.invariant.2

pub returns-then-are-clause-place : goal.returns-then-are-clause-place
returns-then-are-clause-place c = c.objects.invariant.2

pub returns-in_err-build_object-clause-place : goal.returns-in_err-build_object-clause-place
returns-in_err-build_object-clause-place c =
    SameSurroundings-trans _ _ _ c.objects.invariant.2 c.in_err-build_object.ensures.place

pub returns-clause-place : goal.returns-clause-place
returns-clause-place c = c.objects.invariant.2
