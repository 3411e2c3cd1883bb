pub mod Tables
pub mod StoredRows
