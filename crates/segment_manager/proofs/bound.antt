-- Objects that are bound: their places, and their calls as calls for a key.
pub mod ByKey
