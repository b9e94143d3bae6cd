pub mod Runnable
pub mod Going
