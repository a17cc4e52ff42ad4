pub mod SymbolRule
pub mod NameRule
pub mod NameSteps
pub mod NameOrders
pub mod Accepted
pub mod Needed
pub mod Tables
