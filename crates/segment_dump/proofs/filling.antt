-- Filling an object: one element more at a time (`OneElement`).
pub mod OneElement
pub mod FillSteps
pub mod EmptyObjects
pub mod Addition
pub mod Strings
