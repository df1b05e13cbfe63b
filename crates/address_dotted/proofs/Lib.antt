pub mod Dotting
