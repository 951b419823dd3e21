-- Sessions: each end is one that a session may have (`Ends`), and what a run leaves is what the session owes.
pub mod Ends
pub mod Runs
pub mod Start
pub mod ZeroGaps
