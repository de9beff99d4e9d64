pub mod Paths
pub mod Grammar
pub mod Examples
pub mod Bounds
pub mod Numbers
pub mod Reads
pub mod Reading
pub mod Worked
