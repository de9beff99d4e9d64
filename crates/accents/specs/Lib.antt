pub mod Sheets
pub mod BySizes
pub mod Worked
