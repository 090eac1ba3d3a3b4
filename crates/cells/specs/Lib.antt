pub mod AllFinite
pub mod shapes
