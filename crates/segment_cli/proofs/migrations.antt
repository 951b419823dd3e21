-- Migrations: what one answers, from what opening the image answered.
pub mod Outcomes
