mod Bytes
mod Clears
mod Digits
mod Packs
mod Pairs
mod Squares
mod Strips
