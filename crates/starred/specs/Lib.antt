pub mod Answered
pub mod Starred
