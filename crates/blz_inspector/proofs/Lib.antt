pub mod Copies
pub mod KeptEntries
pub mod UseSteps
