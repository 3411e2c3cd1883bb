pub mod PrintTasks
pub mod Printing
