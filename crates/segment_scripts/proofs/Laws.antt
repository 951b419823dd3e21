-- The laws of scripts, for other crates.

-- whether a device failed, by how often it had
pub use Rattle.segment_scripts.proofs.runs.Stops.{none_failed, one_failed}
