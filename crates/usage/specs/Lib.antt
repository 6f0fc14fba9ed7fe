pub mod Standing
pub mod Signs
pub mod Left
pub mod Lossless
pub mod Calls
