pub mod Dirs
pub mod DemoLengths
pub mod Tallied
pub mod Found
pub mod Known
pub mod PlainWalk
pub mod PlainTaken
