pub mod DeviceLemmas
