-- Texts of numbered parts: what has gone out after this many of them.
pub use Rattle.segment_manager.proofs.PartLaws.{IsSplit, part-cut, part-told, parts-all, parts-same, parts-taken, split}
pub use Rattle.segment_manager.proofs.PartLaws.{well}
