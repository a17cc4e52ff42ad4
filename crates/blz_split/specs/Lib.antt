pub mod Contributions
pub mod TablesFit
pub mod SectionNames
pub mod PackageParts
pub mod SplitSections
pub mod IndexRows
