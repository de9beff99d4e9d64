pub mod Starts
pub mod Repaired
pub mod Marks
pub mod Steps
pub mod OneMark
pub mod Written
