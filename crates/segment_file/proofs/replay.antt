-- Giving a front again: what a reader gave after that (`Again`).
pub mod Again
