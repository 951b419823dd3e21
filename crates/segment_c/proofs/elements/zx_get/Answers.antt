use Rattle.std.proofs.Common.{◌∙◌, sym}
use Rattle.segment_c.proofs.slot.GoingOn.{asks}
use Rattle.segment_c.proofs.elements.zx_get.Goals as goal

pub returns : goal.returns
returns c = record {
  call = asks (c.put_taken_back-2.ensures.effect ∙ sym c.in-Ok.ensures.transfer.0)
      (c.put_taken_back-2.ensures.marks_are ∙ c.take.ensures.marks) c.get_any-2.ensures.call;
  outputs_on_error = c.get_any-2.ensures.outputs_on_error;
}
