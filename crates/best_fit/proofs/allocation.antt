-- Allocation: the new block has room for the request, and the other blocks stay (`NewBlock`).
pub mod NewBlock
pub mod LeastGap
pub mod GapToBlock
pub mod GapFront
