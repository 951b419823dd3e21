-- Fingerprints: that of an image whose pages changed (`Changes`).
pub mod Changes
