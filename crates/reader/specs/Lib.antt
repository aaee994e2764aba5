pub mod Format
pub mod Handing
pub mod Passing
pub mod Read
pub mod Reading
pub mod Seen
pub mod Verdict
