pub mod Runs
pub mod Traces
