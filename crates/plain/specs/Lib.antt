pub mod TextBytes
