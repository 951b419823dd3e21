-- Pairs are read into two series: the pairs behind a pair (`Behind`), and a walk over a map's pairs (`Walk`).
pub mod Behind
pub mod Walk
