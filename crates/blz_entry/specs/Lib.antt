pub mod Folds
pub mod StringPlaces
pub mod AddressIndexes
pub mod RangeLists
pub mod Roots
pub mod AddressSets
