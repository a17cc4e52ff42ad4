pub mod ColdSteps
pub mod FewSteps
pub mod NeverFull
pub mod UnitsAgain
pub mod LentLines
pub mod LentUnits
pub mod CallsOfUnits
