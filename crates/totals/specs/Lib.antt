pub mod Totals
pub mod Arrows
pub mod Worked
