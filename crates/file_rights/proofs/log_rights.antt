-- Logs: who may write a log, by its bits (`Counting`); and what the mode of a log grants (`Granting`).
pub mod Counting
pub mod Granting
