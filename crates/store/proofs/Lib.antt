pub mod Keeps
pub mod Nexts
