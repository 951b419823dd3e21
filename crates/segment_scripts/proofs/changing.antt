-- Commands on elements and texts: which call is the step of the command (`Elements`).
pub mod Elements
pub mod Texts
