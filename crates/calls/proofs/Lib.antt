pub mod Held
pub mod Routes
pub mod Lists
pub mod Writes
