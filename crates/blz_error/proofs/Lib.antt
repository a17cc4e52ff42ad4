pub mod CauseLemmas
pub mod ReportLemmas
