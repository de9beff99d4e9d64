pub mod Lay
pub mod Traces
pub mod Counted
pub mod Counts
