pub mod Listed
pub mod CarriedTasks
pub mod Sequents
pub mod Levels
pub mod Copies
pub mod NextTask
pub mod LiftedLevels
