pub mod RangeSteps
pub mod FoldSteps
pub mod RootSteps
pub mod SetSteps
