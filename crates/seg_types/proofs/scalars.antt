-- Scalars and their bytes: what is read from bytes (`PlainReads`), and the number that eight bytes spell.
pub mod PlainReads
pub mod EightBytes
