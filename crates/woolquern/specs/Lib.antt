pub mod Job
pub mod Found
