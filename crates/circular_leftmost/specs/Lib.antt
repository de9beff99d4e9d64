pub mod Bound
pub mod Tests
pub mod Leftmost
