use Rattle.std.proofs.Common.{◌≡◌, ◌∙◌, ℕ, Result, Ok, Err, IfOk, MatchResult, sym, ap, subst}
use Rattle.workspace.specs.Workspaces.{paths_of}
use Rattle.loading.specs.Modules.{built}
use Rattle.evaluation.specs.Workspaces.{read_file, targets_of}
use Rattle.loader.specs.Files.{loads}
use Rattle.loader.specs.Places.{of_build}
use Rattle.loading.specs.Loads.{Path}
use Rattle.loading.specs.declared.faults.Placed.{Placed}
use Rattle.loader.proofs.Builds.{built_same}
use Rattle.loader.proofs.building.build_file.Goals as goal

-- a fault at a path, whatever stands for the path
placed_same : {A D : Type 0} (k : A) (n : ℕ) (p q : Path) → q ≡ p
    → ◌≡◌ {A = Result D (Placed A)} (Err (record { kind = k; path = p; line = n })) (Err (record { kind = k; path = q; line = n }))
placed_same k n p q e = ap (λ x. Err (record { kind = k; path = x; line = n })) (sym e)

pub returns-in-Ok : goal.returns-in-Ok
returns-in-Ok c =
    let e = c.args.evaluator.now in
    let w = loads e.sources e.limit in
    let run = targets_of e.sources e.limit (of_build (paths_of e.sources)) in
    let read = rw c.in-Ok.is at c.in_ok-read.ensures in
    subst (λ m. IfOk c.linked.result (λ r. MatchResult r (λ d. m ≡ Ok d.targets) (λ f. m ≡ Err f)))
    (ap (built w run c.args.path.now) read ∙ sym (built_same w c.args.path.now run (read_file e.sources c.args.path.now)))
    c.linked.ensures

pub returns-in_ok-share-in-Err : goal.returns-in_ok-share-in-Err
returns-in_ok-share-in-Err c =
    let e = c.args.evaluator.now in
    let w = loads e.sources e.limit in
    let run = targets_of e.sources e.limit (of_build (paths_of e.sources)) in
    let read = rw c.in-Err.is at c.in_ok-read.ensures in
    built_same w c.args.path.now run (read_file e.sources c.args.path.now)
    ∙ ap (built w run c.args.path.now) (sym read)
    ∙ placed_same _ _ _ _ c.in_ok-share-in-Err.ensures
