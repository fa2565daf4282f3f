pub mod Enough
pub mod Says
pub mod Alike
