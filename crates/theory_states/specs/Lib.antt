pub mod goal_tasks
pub mod States
pub mod Uses
pub mod Meaning
pub mod Moves
