-- Files that were loaded may be shared by threads.
use denote.Param.Send.{IsSend, IsSync, sendable}
use Rattle.std.proofs.Crossing as std
use Rattle.leaves.proofs.Crossing.{leaf_send, leaf_sync}
use Rattle.values.proofs.Crossing.{frozen_sync}
use Rattle.plain.proofs.text.Text.TheSendSync as text
use Rattle.keys.proofs.key.Key.TheSendSync as key
use Rattle.leaves.proofs.leaf.Provider.TheSendSync as provider
use Rattle.values.proofs.frozen.Branch.TheLaws.TheKnot as frozen
use Rattle.values.specs.contracts.frozen.Branch as Branch
use Rattle.values.specs.contracts.value.Value as Value
use Rattle.evaluation.specs.contracts.kept.FunctionDefaults as FunctionDefaults
use Rattle.evaluation.specs.contracts.kept.LoadedValues as LoadedValues
use Rattle.evaluation.specs.contracts.kept.ModuleDefaults as ModuleDefaults
use Rattle.operations.specs.contracts.default_info.DefaultInfo as DefaultInfo
use Rattle.targets.proofs.Crossing.{attribute_send, attribute_sync, rule_send, rule_sync}
use Rattle.evaluation.specs.contracts.handed.Globals as Globals
use Rattle.evaluation.specs.contracts.handed.Module as Module
use Rattle.targets.specs.contracts.declarations.Declarations as Declarations
use Rattle.evaluation.proofs.names.TopNames.TheSendSync as names
use Rattle.modules.proofs.loaded.Modules.TheSendSync as modules
use Rattle.sources.proofs.sources.Sources.TheSendSync as sources
use Rattle.loader.specs.contracts.evaluating.Evaluator as Evaluator
use Rattle.loader.specs.contracts.loaded.LoadedFiles as LoadedFiles

-- ---- values, and modules

pub branch_send : IsSend Branch.the_row
branch_send = search (leaf_send, leaf_sync, provider.the_send, provider.the_sync, frozen.both_send-Branch, std.crosses, sendable) depth 60 fits 20000

pub branch_sync : IsSync Branch.the_row
branch_sync = search (leaf_send, leaf_sync, provider.the_send, provider.the_sync, frozen.both_sync-Branch, std.crosses, sendable) depth 60 fits 20000

pub value_sync : IsSync (Value.the_field).row
value_sync = search (branch_sync, leaf_sync, key.the_field_sync, sendable) depth 60 fits 20000

pub function_defaults_sync : IsSync FunctionDefaults.the_row
function_defaults_sync = search (value_sync, std.crosses, sendable) depth 60 fits 20000

pub loaded_values_sync : IsSync LoadedValues.the_row
loaded_values_sync = search (value_sync, std.crosses, sendable) depth 60 fits 20000

pub defaults_sync : IsSync ModuleDefaults.the_row
defaults_sync = search (function_defaults_sync, std.crosses, sendable) depth 60 fits 20000

pub globals_sync : IsSync Globals.the_row
globals_sync = search (frozen_sync, std.crosses, sendable) depth 60 fits 20000

pub made_sync : IsSync (Declarations.the_field).row
made_sync = search (rule_send, rule_sync, attribute_send, attribute_sync, std.crosses, sendable) depth 60 fits 20000

pub module_sync : IsSync (Module.the_field).row
module_sync = search (globals_sync, loaded_values_sync, defaults_sync, made_sync, names.the_send, names.the_sync, std.crosses, sendable) depth 60 fits 20000

-- ---- files

pub default_info_sync : IsSync (DefaultInfo.the_field).row
default_info_sync = search (value_sync, provider.the_send, provider.the_sync, std.crosses, sendable) depth 60 fits 20000

pub evaluator_sync : IsSync (Evaluator.the_field).row
evaluator_sync = search (default_info_sync, sources.the_sync, std.crosses, sendable) depth 60 fits 20000

pub loaded_sync : IsSync LoadedFiles.the_row
loaded_sync = search (module_sync, modules.the_sync, evaluator_sync, text.the_sync, std.crosses, sendable) depth 60 fits 20000
