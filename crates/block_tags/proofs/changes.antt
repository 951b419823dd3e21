-- The tiles of the tags after words are written: `WrittenTags` covers any change, each other file the change of one
-- call.
pub mod WrittenTags
pub mod Split
pub mod Merge
pub mod EndOfTiles
pub mod UnchangedTags
pub mod WrittenWords
