pub mod Read
pub mod Proof
