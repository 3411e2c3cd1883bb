pub mod Binding
pub mod Chains
pub mod Parameters
pub mod Tables
