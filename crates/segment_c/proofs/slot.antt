-- The machine values of a `HeldSegment`, which assume `Logic`, and calls that go on by another call of their handle.
pub mod MachineValues
pub mod GoingOn
