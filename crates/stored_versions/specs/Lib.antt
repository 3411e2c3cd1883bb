pub mod Catalogues
pub mod Conflicts
pub mod Databases
pub mod Logs
pub mod Openings
pub mod StoredViews
pub mod VersionWrites
