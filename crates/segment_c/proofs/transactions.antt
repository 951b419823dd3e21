-- Codes of an image that is not opened (`Images.why_refused`), and the rooms of regions.
pub mod Images
pub mod Rooms
