pub mod Fields
pub mod Shapes
pub mod Spelling
pub mod Walks
