-- The laws of bytes, words and windows for other crates.
use Rattle.std.proofs.Common.{◌≡◌, ap, refl, ◌∙◌, ℕ, List, ◌++◌, length, drop, append_assoc}
use Rattle.std.proofs.lemmas.List.{drop_at}
-- parts of a list of bytes, and a list with a part rewritten
pub use Rattle.raw_region.proofs.words.Patches.{length-part, part-at, part-part, same_bytes, read-part, length-patched}
pub use Rattle.raw_region.proofs.words.Patches.{patched-all, patched-append, patched-inside, patched-outside}
pub use Rattle.raw_region.proofs.words.Patches.{patched-prepend}
pub use Rattle.raw_region.proofs.words.Patches.{refill-all, whole-cut_at, length-word}
-- memory that is unchanged
pub use Rattle.raw_region.proofs.words.Words.{SameBytes-refl, SameBytes-trans, SameBytes-part, SameBytes-read}
pub use Rattle.raw_region.proofs.words.Words.{SameBytes-word}
pub use Rattle.raw_region.proofs.words.Words.{SameBytes-half_word, HasBytesAt-same}
pub use Rattle.raw_region.proofs.words.Words.{SameBytesExcept-trans, SameBytesExcept-wider, SameBytesExcept-SameBytes}
pub use Rattle.raw_region.proofs.words.Words.{SameBytesExcept-word, SameBytesExcept-half_word}
pub use Rattle.raw_region.proofs.words.Words.{SameBytesExcept-word_above}
pub use Rattle.raw_region.proofs.words.Words.{SameBytesExcept-word_below}
pub use Rattle.raw_region.proofs.words.Words.{SameSurroundings-trans, with_bytes-SameSurroundings}
-- words that are written, and words that are moved
pub use Rattle.raw_region.proofs.words.Words.{word-own, word-before, word-after, word-inside, word-first, word-behind}
pub use Rattle.raw_region.proofs.words.Words.{word_moved, length-word_written, word_written-SameBytesExcept}
pub use Rattle.raw_region.proofs.words.Words.{patched-HasBytesAt, patched-SameBytesExcept}
-- zeros
pub use Rattle.raw_region.proofs.words.Words.{filled-AreZero, filled-SameBytesExcept, length-zeros, zeros-AreZero}
-- texts that are written piece by piece
pub use Rattle.raw_region.proofs.words.Writing.{writes-behind, writes-then, writes-cut, writes-element}

-- ---- what a device gave or took

-- the bytes after the old ones are the appended bytes
pub added : (old new b : List ℕ) → new ≡ old ++ b → drop (length old) new ≡ b
added old new b e = ap (λ (l : List ℕ). drop (length old) l) e ∙ drop_at old b (length old) refl

-- first these bytes, and then those
pub both_added : (old mid new b more : List ℕ) → mid ≡ old ++ b → new ≡ mid ++ more → new ≡ old ++ (b ++ more)
both_added old mid new b more e f = f ∙ ap (λ (l : List ℕ). l ++ more) e ∙ append_assoc old b more
