pub mod Piles
pub mod Tops
pub mod Children
pub mod Weights
pub mod Rooms
