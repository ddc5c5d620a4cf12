-- How the code follows the rules and the trace.
pub mod Says
pub mod Rests
pub mod Plains
pub mod Cuts
pub mod Kind
pub mod Turns
pub mod Given
pub mod Walks
pub mod Entries
