use Rattle.segment_dump.proofs.Common.{ap, measured_slots}
use Rattle.segment_dump.proofs.capacities.count_slots.Goals as goal

pub returns-in-Ok : goal.returns-in-Ok
returns-in-Ok c = record { answers = λ d k. ap measured_slots (c.in-Ok.ensures.answers d k) }

pub returns-in-Err : goal.returns-in-Err
returns-in-Err c = record { answers = λ d k. ap measured_slots (c.in-Err.ensures.answers d k) }
