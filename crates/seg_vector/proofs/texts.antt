-- Vectors of strings: their array and the blocks of their strings (`Blocks`), through each call.
pub mod Blocks
pub mod Calls
pub mod Growth
pub mod Puts
pub mod LayOut
pub mod Making
