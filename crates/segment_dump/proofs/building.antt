-- Building a segment of a dump: all objects, one after another (`Objects`), until it is what the dump says.
pub mod Objects
pub mod BuildSteps
pub mod MachineSteps
pub mod NewObjects
pub mod ObjectOrder
pub mod WholeDump
pub mod Presence
pub mod Members
