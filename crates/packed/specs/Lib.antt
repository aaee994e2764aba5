pub mod Headers
pub mod Packing
pub mod Regions
pub mod Stands
