-- The free bytes of gaps made zero (`ZeroGaps`).
pub mod ZeroGaps
