pub mod Proper
pub mod Later
pub mod Characters
pub mod ProperStates
pub mod Checked
