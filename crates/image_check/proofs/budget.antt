-- Visits: all passes together stay within their bound (`Visits`).
pub mod Visits
pub mod Passes
