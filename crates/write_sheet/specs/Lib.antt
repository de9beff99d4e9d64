pub mod Sheets
pub mod Chained
pub mod Arrows
pub mod Whole
