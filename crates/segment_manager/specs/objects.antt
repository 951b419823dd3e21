-- Objects of all kinds.
pub mod Found
pub mod Located
pub mod BoundObjects
pub mod BoundSteps
pub mod Heads
pub mod NewObjects
pub mod Items
pub mod PendingObjects
pub mod Standing
pub mod Destroyed
pub mod Instances
pub mod ElementLists
pub mod Counted
