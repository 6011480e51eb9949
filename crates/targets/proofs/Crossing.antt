-- Rules, targets and what becomes of labels may cross threads.
use denote.Param.Send.{IsSend, IsSync, sendable}
use Rattle.std.proofs.Crossing as std
use Rattle.std.proofs.MapsCrossing as maps
use Rattle.plain.proofs.text.Text.TheSendSync as text
use Rattle.depsets.proofs.element.FileRef.TheSendSync as file
use Rattle.keys.proofs.key.Key.TheSendSync as key
use Rattle.workspace.proofs.labels.Label.TheSendSync as label
use Rattle.values.proofs.Crossing.{frozen_send, frozen_sync}
use Rattle.leaves.proofs.leaf.FunctionRef.TheSendSync as function
use Rattle.leaves.proofs.leaf.Provider.TheSendSync as provider
use Rattle.actions.proofs.Crossing.{action_send, action_sync}
use Rattle.targets.proofs.outcome.TargetFault.TheSendSync as fault
use Rattle.targets.specs.contracts.text_list.TextList as TextList
use Rattle.targets.specs.contracts.text_dict.TextDict as TextDict
use Rattle.targets.specs.contracts.attributes.AttributeValue as AttributeValue
use Rattle.targets.specs.contracts.choices.Choices as Choices
use Rattle.targets.specs.contracts.attributes.Attribute as Attribute
use Rattle.targets.specs.contracts.rule_attributes.RuleAttributes as RuleAttributes
use Rattle.targets.specs.contracts.attributes.Rule as Rule
use Rattle.targets.specs.contracts.target.Target as Target
use Rattle.targets.specs.contracts.outcome.Actions as Actions
use Rattle.targets.specs.contracts.outcome.Providers as Providers
use Rattle.targets.specs.contracts.outcome.Outcome as Outcome
use Rattle.targets.specs.contracts.source_file.SourceFile as SourceFile

-- ---- what a target has for an attribute

pub text_list_send : IsSend TextList.the_row
text_list_send = search (frozen_send, std.crosses, sendable) depth 60 fits 20000

pub text_list_sync : IsSync TextList.the_row
text_list_sync = search (frozen_sync, std.crosses, sendable) depth 60 fits 20000

pub text_dict_send : IsSend TextDict.the_row
text_dict_send = search (frozen_send, std.crosses, sendable) depth 60 fits 20000

pub text_dict_sync : IsSync TextDict.the_row
text_dict_sync = search (frozen_sync, std.crosses, sendable) depth 60 fits 20000

pub value_send : IsSend (AttributeValue.the_field).row
value_send = search (text_list_send, text_list_sync, text_dict_send, text_dict_sync, key.the_field_send, label.the_send, label.the_sync, std.crosses, sendable) depth 60 fits 20000

pub value_sync : IsSync (AttributeValue.the_field).row
value_sync = search (text_list_send, text_list_sync, text_dict_send, text_dict_sync, key.the_field_sync, label.the_send, label.the_sync, std.crosses, sendable) depth 60 fits 20000

-- ---- attributes, rules and targets

pub choices_send : IsSend Choices.the_row
choices_send = search (key.the_field_send, std.crosses, sendable) depth 60 fits 20000

pub choices_sync : IsSync Choices.the_row
choices_sync = search (key.the_field_sync, std.crosses, sendable) depth 60 fits 20000

pub attribute_send : IsSend (Attribute.the_field).row
attribute_send = search (value_send, choices_send, text.the_send, provider.the_send, provider.the_sync, std.crosses, sendable) depth 60 fits 20000

pub attribute_sync : IsSync (Attribute.the_field).row
attribute_sync = search (value_sync, choices_sync, text.the_sync, provider.the_send, provider.the_sync, std.crosses, sendable) depth 60 fits 20000

pub attributes_send : IsSend RuleAttributes.the_row
attributes_send = search (value_send, attribute_send, attribute_sync, text.the_send, maps.crosses, std.crosses, sendable) depth 60 fits 20000

pub attributes_sync : IsSync RuleAttributes.the_row
attributes_sync = search (value_sync, attribute_send, attribute_sync, text.the_sync, maps.crosses, std.crosses, sendable) depth 60 fits 20000

pub rule_send : IsSend (Rule.the_field).row
rule_send = search (attributes_send, function.the_send, function.the_sync, std.crosses, sendable) depth 60 fits 20000

pub rule_sync : IsSync (Rule.the_field).row
rule_sync = search (attributes_sync, function.the_send, function.the_sync, std.crosses, sendable) depth 60 fits 20000

pub target_send : IsSend (Target.the_field).row
target_send = search (rule_send, rule_sync, value_send, label.the_send, label.the_sync, std.crosses, sendable) depth 60 fits 20000

pub target_sync : IsSync (Target.the_field).row
target_sync = search (rule_send, rule_sync, value_sync, label.the_send, label.the_sync, std.crosses, sendable) depth 60 fits 20000

-- ---- what becomes of a label

pub source_send : IsSend SourceFile.the_row
source_send = search (frozen_send, file.the_send, file.the_sync, std.crosses, sendable) depth 60 fits 20000

pub source_sync : IsSync SourceFile.the_row
source_sync = search (frozen_sync, file.the_send, file.the_sync, std.crosses, sendable) depth 60 fits 20000

pub providers_send : IsSend Providers.the_row
providers_send = search (frozen_send, std.crosses, sendable) depth 60 fits 20000

pub providers_sync : IsSync Providers.the_row
providers_sync = search (frozen_sync, std.crosses, sendable) depth 60 fits 20000

pub actions_send : IsSend Actions.the_row
actions_send = search (action_send, std.crosses, sendable) depth 60 fits 20000

pub actions_sync : IsSync Actions.the_row
actions_sync = search (action_sync, std.crosses, sendable) depth 60 fits 20000

pub outcome_send : IsSend Outcome.the_row
outcome_send = search (source_send, providers_send, actions_send, fault.the_field_send, std.crosses, sendable) depth 60 fits 20000

pub outcome_sync : IsSync Outcome.the_row
outcome_sync = search (source_sync, providers_sync, actions_sync, fault.the_field_sync, std.crosses, sendable) depth 60 fits 20000
