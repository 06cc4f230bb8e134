pub mod Events
pub mod Forms
pub mod Lines
pub mod Sheets
pub mod Sources
pub mod Steps
pub mod Text
