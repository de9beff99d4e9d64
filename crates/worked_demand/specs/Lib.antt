pub mod Calls
pub mod Free
pub mod Computed
pub mod Worked
