-- Why an object is left out of a salvage.
use Rattle.seg_types.specs.declared.refusals.Refusal.{Refusal}
use Rattle.seg_types.specs.declared.refusals.Refusal.TheVariants.{Exists, NoSpace as Full}
use Rattle.segment_salvage.specs.declared.losses.LossCause.{LossCause}
use Rattle.segment_salvage.specs.declared.losses.LossCause.TheVariants.{BadValue, NoSpace, Repeated}

-- the cause, by why the new segment refuses the object
abbrev pub cause_of : Refusal → LossCause
cause_of Full = NoSpace
cause_of Exists = Repeated
cause_of other = BadValue
