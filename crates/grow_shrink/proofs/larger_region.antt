-- Growing in another region: where the segment stands then (`MovedSegments.still-around`).
pub mod MovedSegments
