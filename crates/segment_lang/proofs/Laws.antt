-- The laws of words and literals for other crates.

-- words stand for no more bytes than they are spelled by
pub use Rattle.segment_lang.proofs.tokens.Lengths.{tokens_room}
-- what stands after a command word: nothing, one word, two, three
pub use Rattle.segment_lang.proofs.commands.Lexing.{alone_at_end, of_key, of_key_literal, of_key_number, of_putting}
-- bytes of which no more than this many are kept
pub use Rattle.segment_lang.proofs.tokens.LinePrefixes.{at_most_or_more, kept_more}
