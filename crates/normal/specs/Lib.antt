pub mod Places
pub mod Holding
pub mod Bench
pub mod Held
pub mod Rows
pub mod Walks
pub mod Calls
