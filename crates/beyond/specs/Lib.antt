pub mod Beyond
pub mod Laws
