pub mod Claim
pub mod Worked
