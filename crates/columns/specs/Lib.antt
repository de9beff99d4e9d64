pub mod Columns
pub mod Distance
pub mod Elements
pub mod Found
pub mod Once
