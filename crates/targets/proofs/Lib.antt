mod RuleRows
mod StepRows
pub mod Facts
pub mod Dependencies
pub mod Declared
pub mod NamedTargets
pub mod Refusals
pub mod Whole
pub mod Placing
pub mod Reading
mod EachMade
mod TextLists
mod KeyTables
pub mod TextDicts
pub mod Crossing
