pub mod Order
pub mod Slots
pub mod Turns
pub mod Demand
pub mod Decoded
pub mod Agree
pub mod Rim
