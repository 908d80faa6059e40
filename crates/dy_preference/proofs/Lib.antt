pub mod Distances
pub mod Rising
pub mod StandIns
mod Stopping
