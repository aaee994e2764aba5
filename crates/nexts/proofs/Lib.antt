pub mod Asked
pub mod Kin
pub mod Members
