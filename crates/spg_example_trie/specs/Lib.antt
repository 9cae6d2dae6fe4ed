pub mod Numbers
pub mod Trie
pub mod Rests
pub mod Forks
pub mod Laws
