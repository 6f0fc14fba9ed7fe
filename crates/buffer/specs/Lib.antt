pub mod Marks
pub mod Walks
pub mod Lengths
pub mod Contents
pub mod Sheets
pub mod Places
pub mod Stores
