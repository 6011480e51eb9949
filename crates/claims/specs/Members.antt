-- Actions by the labels of their owners and by their places in a list. (docs/PROFILE.md, "Shared
-- actions" and "Conflicts"; this project's own.)
use Rattle.std.specs.Prelude.{ℕ, List, [], ◌∷◌, Bool, false, not, ◌||◌, Option, None, Some, nat_eq}
use Rattle.std.specs.Prelude.{slice_index_or}
use Rattle.std.specs.declared.cmp.Ordering.{Ordering}
use Rattle.std.specs.Ordering.{nat_cmp, then_cmp, on}
use Rattle.std.specs.Cmp.Lexicographic.{slice_cmp}
use Rattle.std.specs.Str.{bytes_eq}
use Rattle.claims.specs.declared.members.Member.{Member}

-- the label of the target that registered an action
abbrev pub label_of : Member → List ℕ
label_of m = m.label

-- its place in the list
abbrev pub place_of : Member → ℕ
place_of m = m.place

-- by bytes of the label, then by place
abbrev pub member_cmp : Member → Member → Ordering
member_cmp = then_cmp (on label_of (slice_cmp nat_cmp)) (on place_of nat_cmp)

-- two clash where they have one owner or other leaders
abbrev pub clash_by : List ℕ → Member → Member → Bool
clash_by ls m n =
    bytes_eq m.label n.label
    || not (nat_eq (slice_index_or ls m.place m.place) (slice_index_or ls n.place n.place))

-- whether it clashes with the one before it, if there is one
abbrev pub clashes_after : List ℕ → Option Member → Member → Bool
clashes_after ls None m = false
clashes_after ls (Some l) m = clash_by ls l m

-- whether one of them clashes with the one before it
abbrev pub some_clash : List ℕ → Option Member → List Member → Bool
some_clash ls last [] = false
some_clash ls last (m ∷ ms) = clashes_after ls last m || some_clash ls (Some m) ms
