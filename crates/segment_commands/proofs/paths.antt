-- Paths: how one is printed, by its first byte (`Told`).
pub mod Told
