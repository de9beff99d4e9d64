pub mod Drawn
pub mod Given
pub mod Worked
