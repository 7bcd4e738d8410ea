pub mod Rules
pub mod Models
pub mod Calls
