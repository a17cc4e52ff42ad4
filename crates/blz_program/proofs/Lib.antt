pub mod Written
pub mod Numbers
pub mod Cuts
pub mod Ends
