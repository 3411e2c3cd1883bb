pub mod CellLaws
pub mod ColumnLaws
pub mod CountLaws
pub mod ListLaws
pub mod MetLaws
pub mod OnceLaws
