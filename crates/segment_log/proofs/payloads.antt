-- Payloads: what is written of two images, and what is read of that (`Writing`).
pub mod Writing
