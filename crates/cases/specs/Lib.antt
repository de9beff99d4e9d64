pub mod Kinds
pub mod Payload
pub mod Laws
