-- Reading an image: which class the bytes so far decide (`Deciding`), and why a reading stops.
pub mod Deciding
pub mod Stops
pub mod Fronts
pub mod Buffer
pub mod Places
pub mod Formats
pub mod FrontAlone
pub mod Ends
