-- The paths that at least two actions of a list declare, by bytes of the path, each with these
-- actions, by label and then by place in the list. (This project's own rule.)
use Rattle.std.specs.Prelude.{ℕ, List, [], ◌∷◌, ◌++◌, length, map, if◌then◌else◌, nat_lt}
use Rattle.std.specs.Str.{bytes_eq}
use Rattle.std.specs.List.{filter}
use Rattle.claims.specs.Claims.{claims_from, in_order, is_on}
use Rattle.claims.specs.Owned.{Owned}
use Rattle.claims.specs.declared.claiming.Claim.{Claim}
use Rattle.claims.specs.declared.commons.Common.{Common}
use Rattle.claims.specs.declared.members.Member.{Member}

-- the action that makes a claim, by its owner's label and by its place
abbrev pub member_of : Claim → Member
member_of c = record { label = c.label; place = c.place }

-- the actions of the claims on a path, as the claims follow one another
abbrev pub members_on : List ℕ → List Claim → List Member
members_on p cs = map member_of (filter (is_on p) cs)

-- the actions that declare a path, by label and then by place, each once
abbrev pub members : List ℕ → List Owned → List Member
members p os = members_on p (in_order (claims_from 0 os))

-- a path with its actions is common where there are at least two
abbrev pub common_of : List ℕ → List Member → List Common
common_of p ms = if nat_lt 1 (length ms) then record { path = p; members = ms } ∷ [] else []

-- the common paths of claims in order, where these actions that declare the path came before them
abbrev pub gathered : List ℕ → List Member → List Claim → List Common
gathered p ms [] = common_of p ms
gathered p ms (c ∷ cs) =
    if bytes_eq p c.path then gathered p (ms ++ member_of c ∷ []) cs
    else common_of p ms ++ gathered c.path (member_of c ∷ []) cs

-- the common paths of a list of actions: only on these can actions conflict
abbrev pub commons_of : List Owned → List Common
commons_of os = gathered [] [] (in_order (claims_from 0 os))
