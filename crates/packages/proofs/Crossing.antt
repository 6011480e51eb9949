-- What packages declare may cross threads.
use denote.Param.Send.{IsSend, IsSync, sendable}
use Rattle.std.proofs.Crossing as std
use Rattle.plain.proofs.text.Text.TheSendSync as text
use Rattle.workspace.proofs.labels.Label.TheSendSync as label
use Rattle.values.proofs.Crossing.{frozen_send, frozen_sync}
use Rattle.targets.proofs.Crossing.{target_send, target_sync}
use Rattle.analysis.specs.contracts.needed.Needed as Needed
use Rattle.rule_calls.specs.contracts.by_name.PackageTargets as PackageTargets
use Rattle.packages.specs.contracts.kept.DeclaredTargets as DeclaredTargets
use Rattle.packages.specs.contracts.kept.Package as Package

pub package_targets_send : IsSend PackageTargets.the_row
package_targets_send = search (target_send, text.the_send, label.the_send, label.the_sync, std.crosses, sendable) depth 60 fits 20000

pub package_targets_sync : IsSync PackageTargets.the_row
package_targets_sync = search (target_sync, text.the_sync, label.the_send, label.the_sync, std.crosses, sendable) depth 60 fits 20000

pub needed_send : IsSend Needed.the_row
needed_send = search (frozen_send, label.the_send, label.the_sync, std.crosses, sendable) depth 60 fits 20000

pub needed_sync : IsSync Needed.the_row
needed_sync = search (frozen_sync, label.the_send, label.the_sync, std.crosses, sendable) depth 60 fits 20000

pub declared_targets_send : IsSend DeclaredTargets.the_row
declared_targets_send = search (package_targets_send, needed_send, std.crosses, sendable) depth 60 fits 20000

pub declared_targets_sync : IsSync DeclaredTargets.the_row
declared_targets_sync = search (package_targets_sync, needed_sync, std.crosses, sendable) depth 60 fits 20000

pub package_sync : IsSync (Package.the_field).row
package_sync = search (declared_targets_sync, std.crosses, sendable) depth 60 fits 20000
