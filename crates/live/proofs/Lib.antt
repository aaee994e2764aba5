pub mod Coded
pub mod Edited
pub mod Fitted
pub mod Kept
pub mod Moved
pub mod Whole
