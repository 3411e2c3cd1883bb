pub mod Members
pub mod PlainWrites
pub mod RowWrites
pub mod StoredTables
pub mod TableViews
pub mod TakenWrites
