pub mod Bytes
pub mod Chunks
pub mod NameLaws
pub mod Orders
pub mod PathLaws
pub mod Table
pub mod Walks
pub mod Words
