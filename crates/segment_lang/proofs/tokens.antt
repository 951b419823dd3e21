-- The words of a line: all of them are read one after another (`AllTokens`), bare or in quotes.
pub mod AllTokens
pub mod BareTokens
pub mod QuotedNames
pub mod EachToken
pub mod Readers
pub mod FirstTokens
pub mod Lengths
pub mod LongLines
pub mod LinePrefixes
