-- Texts by their spelling: what is printed is read as itself (`Spelling`).
pub mod Spelling
pub mod Items
pub mod Keys
