pub mod Histories
pub mod Tables
pub mod Law
pub mod Models
pub mod Outside
pub mod Theorems
pub mod Cases
