pub mod Clutter
pub mod Near
pub mod Bounds
pub mod Worked
