pub mod Buffers
pub mod Growing
pub mod Steps
pub mod Trails
