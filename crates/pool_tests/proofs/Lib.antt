mod Nested
mod TwoNodes
