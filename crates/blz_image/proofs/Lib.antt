pub mod TextLemmas
pub mod Tables
mod Naming
pub mod Folds
mod SectionSteps
mod MapLooks
mod BeneathMaps
mod ReadRuns
mod TargetMaps
mod FirstGiven
