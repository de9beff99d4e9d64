pub mod Scene
pub mod Turn
pub mod Cut
