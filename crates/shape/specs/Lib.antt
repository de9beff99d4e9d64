pub mod Plane
pub mod Squares
pub mod Centres
pub mod Curves
pub mod Clipping
pub mod Steps
