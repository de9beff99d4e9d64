pub mod Calls
pub mod Decided
pub mod Refused
pub mod Drawing
pub mod Listed
pub mod Saved
pub mod Laws
