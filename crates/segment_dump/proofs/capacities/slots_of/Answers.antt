use Rattle.segment_dump.proofs.dumping.Capacities.{map-without, others-measured, scalars-without}
use Rattle.segment_dump.proofs.capacities.slots_of.Goals as goal

pub returns-in-Scalar : goal.returns-in-Scalar
returns-in-Scalar c = scalars-without c.args.segment.now c.args.object c.requires c.in-Scalar.field-0 c.in-Scalar.is

pub returns-in-Map : goal.returns-in-Map
returns-in-Map c = map-without c.args.segment.now c.args.object c.requires c.in-Map.field-0 c.in-Map.field-1 c.in-Map.is

pub returns-in_default : goal.returns-in_default
returns-in_default c = others-measured c.args.segment.now c.args.object c.requires c.count_slots.result
    c.in_default.not-Scalar c.in_default.not-Map c.count_slots.ensures
