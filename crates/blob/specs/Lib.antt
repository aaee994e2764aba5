pub mod Grammar
pub mod Header
pub mod Lexing
pub mod Refusals
pub mod Tags
pub mod Tokens
