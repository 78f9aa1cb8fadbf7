pub mod Strap
