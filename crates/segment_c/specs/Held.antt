-- What a handle owns: nothing if it is null, and otherwise the box of a segment.
use base.Fml.{Fml, feq}
use denote.RawPtr.{Ptr, null_ptr}
use Rattle.std.specs.{declared.option.Option.Option, declared.alloc.Global.Global, Box.Ownership.box_owns}
use Rattle.std.specs.declared.option.Option.TheVariants.{None, Some}
use Rattle.std.specs.contracts.impls.GlobalAllocator.TheImpl.{ghosts}
use Rattle.segment_manager.specs.contracts.Segment.{the_row}

-- a handle owns the box of a segment, or is null and owns nothing
abbrev pub held : Ptr → Global → Option the_row.Denot → Fml
held p a None = feq Ptr p null_ptr
held p a (Some x) = box_owns (ghosts.dealloc_token a) the_row p x
