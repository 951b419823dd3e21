-- Opening a file: what is answered of its image (`Openings`), and why its front or the rest is not read (`Readings`).
pub mod Openings
pub mod Readings
pub mod Fronts
pub mod Rooms
