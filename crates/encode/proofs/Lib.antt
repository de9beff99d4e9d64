pub mod Means
pub mod Meets
pub mod Clean
pub mod Accepts
pub mod Forward
pub mod Bytes
pub mod Worked
