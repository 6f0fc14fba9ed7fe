pub mod Stretches
pub mod Filling
pub mod Lines
