pub mod Spelled
pub mod Rows
pub mod Shapes
pub mod Composed
pub mod Answered
pub mod Lawful
