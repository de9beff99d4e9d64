pub mod Routing
pub mod Sheets
pub mod Worked
