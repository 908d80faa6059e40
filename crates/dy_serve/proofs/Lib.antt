pub mod Asking
pub mod LineByLine
pub mod Lines
pub mod Lowering
pub mod Printing
pub mod Stopping
pub mod Stretching
