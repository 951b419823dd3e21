pub mod Invocations
pub mod Table
