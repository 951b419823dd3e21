pub mod Exits
pub mod Laid
pub mod LaidElements
pub mod Located
pub mod NoTexts
pub mod Owed
