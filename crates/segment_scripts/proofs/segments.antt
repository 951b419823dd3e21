-- One line at a segment: the call is the step of its command (`CommandSteps`).
pub mod CommandSteps
pub mod LineBounds
pub mod RefusedLines
pub mod ZeroGaps
pub mod Refusals
