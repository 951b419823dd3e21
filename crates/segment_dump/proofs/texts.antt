-- The texts of a dump: each is read in one way (`OneReading`), so a dump tells its objects (`Dumps.dumps-read`).
pub mod OneReading
pub mod LineTokens
pub mod QuotedTexts
pub mod KindTokens
pub mod Pieces
pub mod Parts
pub mod Objects
pub mod Elements
pub mod Lines
pub mod Dumps
pub mod Prefixes
pub mod Base64
pub mod AllElements
pub mod Options
