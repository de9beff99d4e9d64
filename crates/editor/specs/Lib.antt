pub mod Saves
pub mod Proof
pub mod Worked
