use Rattle.std.proofs.Common.{◌≡◌, ◌++◌, ◌∙◌, Some, ap, sym, refl, subst}
use Rattle.workspace.specs.FileKinds.{is_module, package_of}
use Rattle.modules.specs.Modules.{fault_in}
use Rattle.packages.proofs.Files.{build_turn, other_turn, told_turn}
use Rattle.packages.specs.Built.{IsBuilt}
use Rattle.packages.specs.Kept.{HasMore, kept_with}
use Rattle.packages.proofs.building.declare_file.Goals as goal

pub returns-then-is_module : goal.returns-then-is_module
returns-then-is_module c =
    let v = c.args.files.now in
    told_turn v.files v.limit c.args.path.now c.args.rest.now c.args.declared.now.packages.entries c.args.declared.now.faults.items c.put_module_fault.new.faults.items c.modules.result.now c.put_module_fault.result
    (ap is_module (sym c.as_str.ensures) ∙ sym c.is_module.ensures ∙ c.if-is_module.true) c.modules.ensures c.put_module_fault.ensures

pub returns-in-None : goal.returns-in-None
returns-in-None c = λ later s.
    let v = c.args.files.now in
    let path = c.args.path.now in
    let rest = c.args.rest.now in
    let packages = c.args.declared.now.packages.entries in
    let told = c.args.declared.now.faults.items in
    other_turn v.files v.limit path later rest rest packages packages told told s
    (ap is_module (sym c.as_str.ensures) ∙ sym c.is_module.ensures ∙ c.if-is_module.false)
    (subst (λ o. IsBuilt v.files v.limit path o) c.in-None.is c.requires) refl refl refl

pub returns-in_ok-declare_package-in-Some : goal.returns-in_ok-declare_package-in-Some
returns-in_ok-declare_package-in-Some c = λ later s.
    let v = c.args.files.now in
    let path = c.args.path.now in
    let rest = c.args.rest.now in
    let packages = c.args.declared.now.packages.entries in
    let told = c.args.declared.now.faults.items in
    let packages' = c.declare_package.new.declared.packages.entries in
    let told' = c.declare_package.new.declared.faults.items in
    let built = subst (λ o. IsBuilt v.files v.limit path o) c.in-Some.is c.requires in
    build_turn v.files v.limit path later rest rest packages packages' told told' s
    (ap is_module (sym c.as_str.ensures) ∙ sym c.is_module.ensures ∙ c.if-is_module.false)
    built.0 refl
    (subst (λ b. HasMore (package_of path) (kept_with b) packages packages') built.1 c.in_ok-declare_package-in-Some.ensures.packages)
    (subst (λ b. told' ≡ told ++ fault_in path (Some b)) built.1 c.in_ok-declare_package-in-Some.ensures.faults)
