-- One turn of the loops over actions and outputs, and claims that are put in order one part after the other.
use Rattle.std.proofs.Common.{◌≡◌, ℕ, ◌+◌, ◌<◌, List, [], ◌∷◌, ◌++◌, append_assoc, drop, get_or, length, map, ap, ◌∙◌, refl}
use Rattle.depsets.specs.declared.element.FileRef.{FileRef}
use Rattle.claims.specs.Claims.{claim_on, claims_of, claims_from, put_in_order, all_in_order}
use Rattle.claims.specs.Owned.{Owned}
use Rattle.claims.specs.declared.claiming.Claim.{Claim}
use Rattle.claims.proofs.Turns.{one_less}

pub outputs-next : (n : ℕ) (label : List ℕ) (fs : List FileRef) (i : ℕ) (f : FileRef) (cs ds : List Claim) → i < length fs → f ≡ get_or fs i f → ds ≡ cs ++ claim_on n label f ∷ []
    → ds ++ map (claim_on n label) (drop (i + 1) fs) ≡ cs ++ map (claim_on n label) (drop i fs)
outputs-next n label fs i f cs ds low p e =
    ap (λ x. x ++ map (claim_on n label) (drop (i + 1) fs)) e
    ∙ append_assoc cs (claim_on n label f ∷ []) (map (claim_on n label) (drop (i + 1) fs))
    ∙ ap (λ l. cs ++ map (claim_on n label) l) (one_less fs i f low p)

pub actions-next : (os : List Owned) (i : ℕ) (o : Owned) (cs ds : List Claim) → i < length os → o ≡ get_or os i o → ds ≡ cs ++ claims_of i o
    → ds ++ claims_from (i + 1) (drop (i + 1) os) ≡ cs ++ claims_from i (drop i os)
actions-next os i o cs ds low p e =
    ap (λ x. x ++ claims_from (i + 1) (drop (i + 1) os)) e ∙ append_assoc cs (claims_of i o) (claims_from (i + 1) (drop (i + 1) os))
    ∙ ap (λ l. cs ++ claims_from i l) (one_less os i o low p)

pub all_in_order-append : (cs ds es : List Claim) → all_in_order cs (ds ++ es) ≡ all_in_order (all_in_order cs ds) es
all_in_order-append cs [] es = refl
all_in_order-append cs (d ∷ ds) es = all_in_order-append (put_in_order cs d) ds es
