pub mod TreeMaps
pub mod SectionMaps
