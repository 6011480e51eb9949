use Rattle.std.proofs.Common.{◌∙◌, Some, None, ap, sym}
use Rattle.workspace.specs.Workspaces.{paths_of}
use Rattle.targets.specs.Resolving.{target_or_file}
use Rattle.packages.specs.Packages.{package_at}
use Rattle.packages.proofs.Names.{found_is}
use Rattle.packages.proofs.all_targets.Targets.find.Goals as goal

pub returns-in-Some-clause-named : goal.returns-in-Some-clause-named
returns-in-Some-clause-named c =
    let k = c.self.inside in let v = c.args.self.now in let l = c.args.label.now in
    sym (ap (target_or_file (paths_of v.files) (package_at v.files v.limit) l) c.in-Some.ensures.0)
    ∙ found_is k.files v l c.package.result.now k.packages.entries k.faults.items _ c.self.view_is c.legal.ensures c.self.invariant c.package.ensures (ap Some (sym c.in-Some-Declared.field-0-is) ∙ c.in-Some-Declared.ensures.value)

pub returns-in-None-find-clause-named : goal.returns-in-None-find-clause-named
returns-in-None-find-clause-named c =
    let k = c.self.inside in let v = c.args.self.now in let l = c.args.label.now in
    sym (ap (target_or_file (paths_of v.files) (package_at v.files v.limit) l) c.in-None-find.ensures)
    ∙ found_is k.files v l c.package.result.now k.packages.entries k.faults.items _ c.self.view_is c.legal.ensures c.self.invariant c.package.ensures (ap Some (sym c.in-Some-Declared.field-0-is) ∙ c.in-Some-Declared.ensures.value)

pub returns-in-Some-Failed-clause-named : goal.returns-in-Some-Failed-clause-named
returns-in-Some-Failed-clause-named c =
    let k = c.self.inside in let v = c.args.self.now in let l = c.args.label.now in
    found_is k.files v l c.package.result.now k.packages.entries k.faults.items _ c.self.view_is c.legal.ensures c.self.invariant c.package.ensures (ap Some (sym c.in-Some-Failed.field-0-is) ∙ c.in-Some-Failed.ensures.value)

pub returns-in-None-clause-named : goal.returns-in-None-clause-named
returns-in-None-clause-named c =
    let k = c.self.inside in let v = c.args.self.now in let l = c.args.label.now in
    found_is k.files v l c.package.result.now k.packages.entries k.faults.items None c.self.view_is c.legal.ensures c.self.invariant c.package.ensures c.in-None.ensures.value
