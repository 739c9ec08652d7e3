pub mod Meeting
pub mod Stages
pub mod OneStage
