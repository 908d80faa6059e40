pub mod Clusters
pub mod Ends
pub mod Lines
pub mod Outages
pub mod Seeds
pub mod Traces
pub mod Turns
pub mod Words
