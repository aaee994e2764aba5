pub mod Page
pub mod Rows
pub mod Shown
