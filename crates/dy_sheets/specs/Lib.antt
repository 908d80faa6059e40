pub mod Kept
pub mod Sheets
