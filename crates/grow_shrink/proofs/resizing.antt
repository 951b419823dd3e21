-- Growing and shrinking: why a segment is refused a size (`Refusals`), and that its extents are proper at the new one.
pub mod Refusals
pub mod Sizes
