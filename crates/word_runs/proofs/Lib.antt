pub mod Ones
mod Complement
mod Zeros
pub mod WordSearch
mod WorkedBits
pub mod Places
