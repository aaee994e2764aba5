pub mod Listed
pub mod MapLaws
pub mod Maps
pub mod Places
