-- What goes out to C: the places of elements (`Places.has-view`), neighbours of a key, counts.
pub mod Places
pub mod Neighbours
pub mod OwnKinds
pub mod Counts
