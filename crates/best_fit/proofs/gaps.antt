-- A gap as a node of a tree: its place and its fields (`Nodes`), and the effect of each setter.
pub mod Nodes
pub mod Order
pub mod Setters
pub mod OneField
pub mod UnchangedNodes
pub mod UnchangedGaps
pub mod BesideNodes
pub mod LinksOnly
pub mod Comparisons
pub mod Sums
