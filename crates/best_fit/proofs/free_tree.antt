-- The tree of gaps: it is a search tree of `link_tree` (`Trees.search_tree`), and gaps are linked into it and unlinked.
pub mod Trees
pub mod LinkAndUnlink
pub mod Rebuild
pub mod EmptyTree
pub mod UnlinkIfGap
pub mod ExitPoint
pub mod WalkTurns
