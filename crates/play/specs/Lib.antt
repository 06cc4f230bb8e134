pub mod Drafts
pub mod Inputs
pub mod Stages
