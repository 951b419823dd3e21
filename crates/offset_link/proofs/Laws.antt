-- The laws of links for other crates.

-- a link whose bytes stay leads where it led
pub use Rattle.offset_link.proofs.link.Targets.{SameBytes-link, SameBytesExcept-link}
-- a link that leads nowhere is the null word
pub use Rattle.offset_link.proofs.link.Targets.{null_word}
-- the number of links stays when they move
pub use Rattle.offset_link.proofs.moves.ShiftedWords.{length-relinked}
