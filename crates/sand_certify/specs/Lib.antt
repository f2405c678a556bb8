pub mod Certificate
pub mod Emptying
pub mod Laws
