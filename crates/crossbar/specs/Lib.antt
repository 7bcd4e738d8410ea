pub mod Sums
pub mod Loads
pub mod Joining
pub mod Clearing
pub mod Arrays
pub mod Sides
pub mod Models
pub mod Calls
