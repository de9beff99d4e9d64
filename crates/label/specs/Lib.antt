pub mod Accents
pub mod Label
pub mod Measuring
pub mod Worked
