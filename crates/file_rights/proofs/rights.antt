-- Rights: what covers what (`Covering`).
pub mod Covering
