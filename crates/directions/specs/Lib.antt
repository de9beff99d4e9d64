pub mod Directions
pub mod Loop
pub mod Lengths
pub mod Sorted
pub mod Rims
pub mod Worked
