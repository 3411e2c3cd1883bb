pub mod LineLaws
pub mod TieLaws
