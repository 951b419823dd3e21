-- What the program says of its faults, and the status that it ends with.
pub mod Lines
