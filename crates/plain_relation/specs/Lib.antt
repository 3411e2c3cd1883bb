pub mod Relations
pub mod Values
