pub mod Events
pub mod StdOutputs
pub mod FileProblems
pub mod HostReaders
pub mod Logs
