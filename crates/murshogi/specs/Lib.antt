pub mod Exports
pub mod Laws
pub mod Zero
