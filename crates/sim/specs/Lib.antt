pub mod Boards
pub mod Faults
pub mod Paces
pub mod Plans
pub mod Starts
