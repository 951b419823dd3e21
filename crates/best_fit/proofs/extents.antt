-- The live set as a list of extents in order: each change keeps it proper (`Changes.all_keep_proper`), and its gaps are
-- maximal.
pub mod Changes
pub mod Proper
pub mod Gaps
pub mod Order
pub mod Spacing
pub mod Maximal
pub mod FirstFit
pub mod Requests
pub mod Inverse
