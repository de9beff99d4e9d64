pub mod Number
pub mod Rounded
pub mod Reading
pub mod Worked
