pub mod Session
pub mod Beginning
pub mod Serving
pub mod Migration
pub mod Reports
pub use Rattle.segment_scripts.specs.Run
