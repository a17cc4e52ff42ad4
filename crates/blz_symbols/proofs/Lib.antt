mod Greatest
mod Halving
mod Search
mod Leading
mod NeededSteps
mod NameScans
mod NameSearch
