-- The paths of outputs, in a set. (This project's own.)
use Rattle.std.specs.Prelude.{◌≡◌, ◌||◌, ℕ, List, bytes_eq}
use Rattle.std.specs.List.{list_any}
use Rattle.std.specs.Borrow.{Bor}
use Rattle.std.specs.BTreeSet.{BTreeSet, contains}
use Rattle.std.specs.Cmp.Lexicographic.{slice_cmp}
use Rattle.std.specs.Ordering.{nat_cmp}
use Rattle.std.specs.declared.cmp.Ordering.{Ordering}
use Rattle.actions.specs.declared.action.Action.{Action}
use Rattle.depsets.specs.declared.element.FileRef.{FileRef}
use Rattle.targets.specs.Steps.{makes}

-- the order of paths behind references, by their bytes
abbrev pub path_cmp : Bor (List ℕ) → Bor (List ℕ) → Ordering
path_cmp p q = slice_cmp nat_cmp p.now q.now

-- it has just the paths that some action makes
abbrev pub AreMade : List Action → BTreeSet (Bor (List ℕ)) → Type 0
AreMade actions made =
    (q : Bor (List ℕ)) → contains path_cmp made q ≡ list_any (makes q.now) actions

-- it has the paths that it had, and those of files
abbrev pub HasMore : List FileRef → BTreeSet (Bor (List ℕ)) → BTreeSet (Bor (List ℕ)) → Type 0
HasMore fs olds news =
    (q : Bor (List ℕ)) → contains path_cmp news q
    ≡ (contains path_cmp olds q || list_any (λ f. bytes_eq q.now f.path) fs)
