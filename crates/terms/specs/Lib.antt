pub mod Numbers
pub mod Style
pub mod Block
pub mod Token
pub mod Kind
pub mod Field
pub mod StrictNorm
pub mod Names
