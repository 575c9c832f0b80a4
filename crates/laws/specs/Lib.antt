pub mod Outcomes
pub mod Transparency
pub mod Places
pub mod Staleness
pub mod Likeness
pub mod Refusing
pub mod Notes
pub mod RunLaws
