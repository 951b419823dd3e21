-- The fields that name the blocks of a directory are the fields that count in the image
-- (`CountedClaims.claimed-counted`), and no two of them lead to one block (`DisjointBlocks`).
pub mod Fields
pub mod CountedClaims
pub mod CountedFields
pub mod TreeClaims
pub mod UnsharedFields
pub mod FieldPlaces
pub mod Forests
pub mod DisjointBlocks
pub mod DisjointObjects
pub mod ReachedLinks
