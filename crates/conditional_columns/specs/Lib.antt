pub mod ColumnLists
pub mod FormLists
pub mod Keys
