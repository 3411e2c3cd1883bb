pub mod ComposedLaws
pub mod FieldLaws
pub mod Loops
pub mod Passes
pub mod SequenceLaws
pub mod ShapeLaws
pub mod Steps
