pub mod Preferences
pub mod inside
