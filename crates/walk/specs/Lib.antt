pub mod Runs
pub mod Walks
pub mod Steps
pub mod Nodes
