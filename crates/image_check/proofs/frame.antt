-- The frame of an image: header, tags and free tree, and the classes that its tests decide (`Tests`).
pub mod Tests
pub mod Formats
pub mod FirstClass
pub mod EarlyClasses
pub mod WholeCheck
pub mod FormatTags
pub mod OlderFormats
pub mod ReservedBytes
pub mod Tags
