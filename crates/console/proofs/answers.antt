pub mod TwoPieces
