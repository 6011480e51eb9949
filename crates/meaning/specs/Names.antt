-- What the names of a resolved tree stand for, as the tree has it. (Starlark specification, "Name
-- binding and variables"; slots and numbers are this project's own.)
pub use Rattle.program_tree.specs.declared.names.Binding.{Binding}
pub use Rattle.program_tree.specs.declared.names.Binding.TheVariants.{
  Slot as slot,
  Global as global,
  Builtin as builtin,
}
pub use Rattle.program_tree.specs.declared.names.Predeclared.{Predeclared}
pub use Rattle.program_tree.specs.declared.names.Predeclared.TheVariants.{
  NoneValue as none_value,
  TrueValue as true_value,
  FalseValue as false_value,
  LenFunction as len_function,
  FailFunction as fail_function,
}
pub use Rattle.program_tree.specs.declared.program.Loaded.{Loaded}
pub use Rattle.program_tree.specs.declared.program.OwnSlots.{OwnSlots}
