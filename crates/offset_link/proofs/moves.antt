-- Links that move with the words that hold them, one word or a run of words.
pub mod ShiftedWords
