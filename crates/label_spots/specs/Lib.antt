pub mod Spots
pub mod Labels
