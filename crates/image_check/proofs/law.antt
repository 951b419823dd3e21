-- The law of images: no class holds exactly if the bytes denote a directory, and then only one
-- (`OneDirectory.one_directory`).
pub mod OneDirectory
pub mod DenotedHasNoClass
pub mod CleanIsDenoted
pub mod Uniqueness
pub mod ReadObjects
pub mod CleanTests
