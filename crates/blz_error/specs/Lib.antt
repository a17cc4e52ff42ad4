pub mod Texts
pub mod Kinds
pub mod Fault
pub mod View
pub mod Reports
