-- Leaves may cross threads.
use denote.Param.Send.{IsSend, IsSync, sendable}
use Rattle.std.proofs.Crossing as std
use Rattle.plain.proofs.text.Text.TheSendSync as text
use Rattle.depsets.proofs.Crossing.{depset_send, depset_sync}
use Rattle.depsets.proofs.element.FileRef.TheSendSync as file
use Rattle.leaves.proofs.leaf.FunctionRef.TheSendSync as function
use Rattle.leaves.proofs.leaf.Provider.TheSendSync as provider
use Rattle.leaves.proofs.leaf.RuleRef.TheSendSync as rule
use Rattle.leaves.proofs.leaf.AttributeRef.TheSendSync as attribute
use Rattle.leaves.specs.contracts.leaf.Leaf as Leaf

pub leaf_send : IsSend (Leaf.the_field).row
leaf_send = search (depset_send, text.the_send, file.the_send, file.the_sync, function.the_send, function.the_sync, provider.the_send, provider.the_sync, rule.the_send, rule.the_sync, attribute.the_send, attribute.the_sync, std.crosses, sendable) depth 60 fits 20000

pub leaf_sync : IsSync (Leaf.the_field).row
leaf_sync = search (depset_sync, text.the_sync, file.the_send, file.the_sync, function.the_send, function.the_sync, provider.the_send, provider.the_sync, rule.the_send, rule.the_sync, attribute.the_send, attribute.the_sync, std.crosses, sendable) depth 60 fits 20000
