-- Pending images: what is whole (`Wholes`), and what an opener takes (`Surviving`).
pub mod Surviving
pub mod Wholes
