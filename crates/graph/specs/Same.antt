-- Labels by package and name. (This project's own.)
use Rattle.std.specs.Prelude.{◌≡◌, ℕ, Bool, true, false, ◌&&◌, List, [], slice_index_or, bytes_eq}
use Rattle.std.specs.Cmp.{IsEquivalence, decided, on_equiv}
use Rattle.std.specs.Cmp.Lexicographic.{bytes_decides}
use Rattle.std.specs.Hash as fed
use Rattle.std.proofs.Common.{ap, subst, refl, sym, Decides, true≢false}
use Rattle.workspace.specs.Labels.{LabelParts, label_text, same_label}

-- what stands in the place of a label where a number has none
abbrev pub no_label : LabelParts
no_label = record { «package» = []; name = [] }

-- the label of a number
abbrev pub label_at : List LabelParts → ℕ → LabelParts
label_at labels n = slice_index_or labels n no_label

-- ---- the test tells what is the same

-- where both are so, each is
both : (a b : Bool) → (a && b) ≡ true → (a ≡ true) × (b ≡ true)
both true b h = (refl, h)
both false b h = absurd (true≢false (sym h))

-- a label is the same as itself
same_label-own : (l : LabelParts) → same_label l l ≡ true
same_label-own l =
    let p = (bytes_decides l.«package» l.«package»).1 refl in
    let n = (bytes_decides l.name l.name).1 refl in
    subst (λ b. (b && bytes_eq l.name l.name) ≡ true) (sym p) n

-- and what the test calls the same is one label
same_label-same : (a b : LabelParts) → same_label a b ≡ true → a ≡ b
same_label-same a b h =
    let parts = both (bytes_eq a.«package» b.«package») (bytes_eq a.name b.name) h in
    let p = (bytes_decides a.«package» b.«package»).0 parts.0 in
    let n = (bytes_decides a.name b.name).0 parts.1 in
    λ j. record { «package» = p j; name = n j }

-- so the test decides whether two labels are one
pub same_label-decides : (a b : LabelParts) → Decides (same_label a b) (a ≡ b)
same_label-decides a b = (
  same_label-same a b,
  λ h. subst (λ (c : LabelParts). same_label a c ≡ true) h (same_label-own a),
)

-- and it is an equivalence, as a table by labels needs
pub same_label-equiv : IsEquivalence same_label
same_label-equiv = decided same_label same_label-decides

-- so it does of what has a label
pub same_label-on : {X : Type 0} (f : X → LabelParts)
    → IsEquivalence (λ (x y : X). same_label (f x) (f y))
same_label-on f = on_equiv f same_label-equiv

-- labels that are the same are hashed the same
pub same_label-hashed : (a b : LabelParts) → same_label a b ≡ true
    → fed.str (label_text a) ≡ fed.str (label_text b)
same_label-hashed a b h = ap (λ l. fed.str (label_text l)) (same_label-same a b h)
