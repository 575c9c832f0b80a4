pub mod Machine
pub mod Owner
