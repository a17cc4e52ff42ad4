pub mod Entries
pub mod SourceViews
pub mod Names
pub mod WarmEntries
pub mod Uses
