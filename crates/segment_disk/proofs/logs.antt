-- The log of a file that commits go on with: cut behind its records, with a shut gate there (`Gated`).
pub mod Gated
