pub mod Layered
pub mod Single
pub mod Xs
pub mod Ys
