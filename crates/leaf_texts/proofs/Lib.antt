pub mod TextLemmas
mod QuotedLemmas
