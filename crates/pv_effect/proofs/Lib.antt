pub mod Below
pub mod Descents
pub mod Inside
pub mod Over
pub mod Same
