-- What is asked for by a command line that was parsed, or was not.
pub mod NamedFiles
pub mod Refusals
