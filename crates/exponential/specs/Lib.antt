pub mod Exp
pub mod Sinh
pub mod Cosh
