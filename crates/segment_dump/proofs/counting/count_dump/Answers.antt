use Rattle.segment_dump.proofs.Common.{refl, ap, subst, ◌∙◌, Needs, both, only_room}
use Rattle.segment_dump.specs.Asked.{AreAtMost}
use Rattle.segment_dump.proofs.counting.Dumps.{dump-no_prefix, dump-no_objects, dump-some}
use Rattle.segment_dump.proofs.counting.count_dump.Goals as goal

pub returns-in_default-clause-count : goal.returns-in_default-clause-count
returns-in_default-clause-count c = dump-no_prefix c.args.text.now c.prefix_left.result c.in_default.ensures.value

pub returns-in_err-objects-clause-count : goal.returns-in_err-objects-clause-count
returns-in_err-objects-clause-count c =
    dump-no_objects c.args.text.now c.in-Some.prefix c.in-Some.rest.now c.in_err-objects.field-0.0
    c.from_residual.result c.from_residual.ensures.0 c.in-Some.ensures.value c.in_err-objects.ensures.count

pub returns-clause-count : goal.returns-clause-count
returns-clause-count c =
    dump-some c.args.text.now c.in-Some.prefix c.in-Some.rest.now c.only_room-indexes.result c.in_ok-objects.objects
    c.and.result c.in-Some.ensures.value c.in_ok-objects.ensures.count
    (c.only_room-indexes.ensures ∙ ap only_room c.prefix_room.ensures) c.and.ensures.sum

pub returns-clause-steps_lower : goal.returns-clause-steps_lower
returns-clause-steps_lower c = record {
  prefix = c.in-Some.prefix;
  behind = c.in-Some.rest.now;
  is = c.in-Some.ensures.spelled;
  size = refl;
  asked = c.in_ok-objects.objects;
  objects = c.in_ok-objects.ensures.questions;
  most = subst (λ (own : Needs).
      AreAtMost c.and.result (both own c.in_ok-objects.objects)) (c.only_room-indexes.ensures
      ∙ ap only_room c.prefix_room.ensures) c.and.ensures.most;
}
