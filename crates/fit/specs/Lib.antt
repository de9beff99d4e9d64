pub mod Fit
pub mod Worked
pub mod Inside
