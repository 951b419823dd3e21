-- Elements that are set to a written value: the object's kind decides which command it is.
use Rattle.seg_types.specs.Commands.{Command, Insert, Literal, Push}
use Rattle.seg_types.specs.Names.{Key}
use Rattle.segment_values.specs.declared.elements.InsertSpot.{InsertSpot}
use Rattle.segment_values.specs.declared.elements.InsertSpot.TheVariants.{End, Before}
-- the object to change, and the literal as a value of its elements
pub use Rattle.segment_manager.specs.containers.Changeable.{IsChangeable, IsChangeableObject}
pub use Rattle.segment_manager.specs.containers.Changeable.{IsUnchangeable}

-- the command that inserts a literal at a position of a vector
abbrev pub command_at : InsertSpot → Key → Literal → Command
command_at End key l = Push key l
command_at (Before i) key l = Insert key i l
