pub mod Sought
pub mod Outcomes
pub mod Noted
pub mod Parts
pub mod Loops
pub mod Entries
