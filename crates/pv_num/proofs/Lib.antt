pub mod Bitwise
pub mod Congruence
pub mod Members
pub mod Products
pub mod Quotients
