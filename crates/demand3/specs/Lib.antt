pub mod Demand
pub mod Newlines
pub mod Places
pub mod Proof
