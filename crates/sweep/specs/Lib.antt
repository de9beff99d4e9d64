pub mod Sweeps
pub mod Steps
pub mod Counted
pub mod Sorted
pub mod Lengths
pub mod Centred
