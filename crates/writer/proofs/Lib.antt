pub mod Bytes
pub mod Strings
pub mod Sizes
pub mod Lexes
pub mod Entries
pub mod Verdicts
pub mod Images
