pub mod Traces
pub mod Form
pub mod Near
