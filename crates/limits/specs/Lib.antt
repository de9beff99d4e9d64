pub mod Under
pub mod Apart
pub mod Proof
pub mod Worked
