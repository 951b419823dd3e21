-- Removal keeps the order, the colours and the black heights (`Removal`).
pub mod Removal
pub mod ExitPoint
pub mod RootRemoval
pub mod LeastRemoval
pub mod RemovalSteps
