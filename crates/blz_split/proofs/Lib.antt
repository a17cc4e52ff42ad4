pub mod FirstIn
pub mod IndexRows
