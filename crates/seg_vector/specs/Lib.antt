pub mod Vector
pub mod Containers
pub mod Elements
pub mod VectorCalls
pub mod TextCalls
pub mod TextsCalls
pub mod TextParts
pub mod TextLists
