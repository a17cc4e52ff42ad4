pub mod Flows
pub mod Relocations
