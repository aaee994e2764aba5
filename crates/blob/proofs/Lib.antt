pub mod Heads
pub mod Lexed
pub mod Shapes
pub mod Steps
