pub mod Goes
pub mod Opens
pub mod Tight
