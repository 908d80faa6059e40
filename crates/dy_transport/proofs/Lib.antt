mod Reached
mod Waits
