mod Copies
mod Counted
