pub mod Looped
pub mod Early
