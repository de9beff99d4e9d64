pub mod Ring
pub mod Places
