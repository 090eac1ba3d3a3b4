pub mod Kernel
pub mod Reduce
pub mod Sin
pub mod Cos
pub mod SinCos
pub mod SinPi
pub mod CosPi
pub mod Split
