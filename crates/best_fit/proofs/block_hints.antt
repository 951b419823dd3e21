-- Handles by piece, as the pieces become wider (`Pieces`, whose last lemma is the main one: the handle of a piece is
-- noted in a wider one).
pub mod Pieces
