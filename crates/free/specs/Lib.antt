pub mod Chords
pub mod Blocked
pub mod Free
pub mod Moves
pub mod Steps
