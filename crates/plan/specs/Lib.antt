pub mod Measured
pub mod Planned
pub mod Laws
