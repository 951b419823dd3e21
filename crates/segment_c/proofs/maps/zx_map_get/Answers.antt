use Rattle.std.proofs.Common.{◌∙◌, sym}
use Rattle.segment_c.proofs.slot.GoingOn.{asks}
use Rattle.segment_c.proofs.maps.zx_map_get.Goals as goal

pub returns-in-None : goal.returns-in-None
returns-in-None c = record {
  call = asks (c.put_taken_back.ensures.effect ∙ sym c.in-Ok.ensures.transfer.0)
      (c.put_taken_back.ensures.marks_are ∙ c.take.ensures.marks) c.get_any-in-None.ensures.call;
  outputs_on_error = c.get_any-in-None.ensures.outputs_on_error;
}
