pub mod Picked
pub mod Graphs
pub mod Paths
pub mod Searching
pub mod Kernel
pub mod Settled
pub mod Mending
pub mod Raising
