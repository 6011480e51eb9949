-- What actions declare, in order. (docs/PROFILE.md, "Conflicts"; this project's own.)
use Rattle.std.specs.Prelude.{ℕ, ◌+◌, Bool, List, [], ◌∷◌, ◌++◌, map}
use Rattle.std.specs.declared.cmp.Ordering.{Ordering}
use Rattle.std.specs.Ordering.{nat_cmp, then_cmp, on}
use Rattle.std.specs.Cmp.Lexicographic.{slice_cmp}
use Rattle.std.specs.Str.{bytes_eq}
use Rattle.std.specs.BTreeSet.{insert_key}
use Rattle.depsets.specs.declared.element.FileRef.{FileRef}
use Rattle.claims.specs.Owned.{Owned}
use Rattle.claims.specs.declared.claiming.Claim.{Claim}

-- by bytes of the path, then by bytes of the label, then by the place of the action in the list
abbrev pub claim_cmp : Claim → Claim → Ordering
claim_cmp =
    then_cmp (on (λ c. c.path) (slice_cmp nat_cmp))
    (then_cmp (on (λ c. c.label) (slice_cmp nat_cmp)) (on (λ c. c.place) nat_cmp))

-- the action at the place in the list, which the label's target registered, declares the File
abbrev pub claim_on : ℕ → List ℕ → FileRef → Claim
claim_on n label f = record { path = f.path; label = label; place = n }

-- the claims of the action at a place: one for each of its outputs
abbrev pub claims_of : ℕ → Owned → List Claim
claims_of n o = map (claim_on n o.label) o.action.outputs

-- those of all actions of a list, whose first is at the place
abbrev pub claims_from : ℕ → List Owned → List Claim
claims_from n [] = []
claims_from n (o ∷ os) = claims_of n o ++ claims_from (n + 1) os

-- one claim more, at its place in the order; an action that names a path twice claims it once
abbrev pub put_in_order : List Claim → Claim → List Claim
put_in_order cs c = insert_key claim_cmp cs c

-- the claims in order, and all of these put among them
abbrev pub all_in_order : List Claim → List Claim → List Claim
all_in_order cs [] = cs
all_in_order cs (d ∷ ds) = all_in_order (put_in_order cs d) ds

-- these claims in order, each once
abbrev pub in_order : List Claim → List Claim
in_order ds = all_in_order [] ds

-- whether a claim is on a path
abbrev pub is_on : List ℕ → Claim → Bool
is_on p c = bytes_eq p c.path
