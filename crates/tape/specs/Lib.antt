pub mod Iters
pub mod Nodes
pub mod Tapes
