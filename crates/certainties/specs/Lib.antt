pub mod Certainties
pub mod Texts
