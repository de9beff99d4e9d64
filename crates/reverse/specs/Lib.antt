pub mod Reverse
pub mod Worked
