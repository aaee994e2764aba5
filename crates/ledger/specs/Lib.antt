pub mod Ledgers
pub mod Invariants
pub mod Promises
pub mod Logs
pub mod Examples
