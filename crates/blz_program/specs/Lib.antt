pub mod Outcomes
pub mod Programs
pub mod Runs
pub mod Reading
pub mod Words
pub mod TextLines
pub mod PrintedText
