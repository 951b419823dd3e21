-- The order of keys, and the number of comparisons of a search.
pub mod Order
pub mod NameFronts
