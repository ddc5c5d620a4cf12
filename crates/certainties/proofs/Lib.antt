pub mod Numbers
pub mod Certainties
pub mod Texts
