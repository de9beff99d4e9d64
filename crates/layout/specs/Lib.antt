pub mod Layout
pub mod Lent
pub mod Laws
pub mod Alike
