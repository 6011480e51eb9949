use Rattle.std.proofs.Common.{◌≡◌, ◌∙◌, sym}
use Rattle.analysis.specs.Keyed.{Key, key_label}
use Rattle.analysis.proofs.Finding.{has_more_put}
use Rattle.analysis.proofs.checks.put.Goals as goal

pub returns-in_ok-insert : goal.returns-in_ok-insert
returns-in_ok-insert c =
    let k : Key = c.label_key-key.result in
    let is : key_label k ≡ c.args.dependency.label.now = c.label_key-key.ensures.0 ∙ c.get.ensures in
    has_more_put c.args.dependency k is c.label_key-key.ensures.1 c.args.found.now c.insert.new.self (sym c.contains_key.ensures ∙ c.if-not-contains_key.true) c.in_ok-insert.ensures.updates
