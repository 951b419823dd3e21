-- Lent payloads: any write to a payload keeps the heap (`Payloads.payload_written`).
pub mod Payloads
pub mod TwoRanges
