-- What the kernels compute.
pub mod Kernels
