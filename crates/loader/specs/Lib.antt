pub mod Filling
pub mod Loading
pub mod Trails
pub mod Writing
