pub mod Writing
pub mod Puts
pub mod Writes
pub mod Cuts
pub mod Lines
