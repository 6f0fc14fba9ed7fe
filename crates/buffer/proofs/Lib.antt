pub mod Fours
pub mod Lawful
pub mod Cutting
pub mod WholeNote
pub mod Numbered
pub mod Growth
pub mod Writing
pub mod Held
