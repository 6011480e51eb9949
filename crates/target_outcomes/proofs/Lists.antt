-- Dependencies with their outcomes, one by one.
use Rattle.std.proofs.Common.{◌≡◌, ◌∙◌, ℕ, zero, suc, ◌+◌, ◌<◌, ◌≤◌, List, [], ◌∷◌, ◌++◌, map, length, drop, get_or, slice_get, option_map, Some, None, sym, ap, refl, arith, add-one, append_assoc, append-nil}
use Rattle.std.proofs.lemmas.List.{map-append}
use Rattle.std.specs.Borrow.{Bor}
use Rattle.std.specs.Prelude.{zip}
use Rattle.workspace.specs.Labels.{LabelParts}
use Rattle.targets.specs.Checks.{Dependency as Seen}
use Rattle.targets.specs.declared.outcome.Outcome.{Outcome}
use Rattle.analysis.specs.Seen.{dependency_seen, dependencies_seen}
use Rattle.analysis.specs.declared.dependency.Dependency.{Dependency}

abbrev held : List (Bor Outcome) → List Outcome
held os = map (λ r. r.now) os

abbrev paired : Outcome → LabelParts → Seen
paired o l = (l, o)

-- the next label and the next outcome stand first
next : (n : ℕ) (ls : List LabelParts) (os : List (Bor Outcome)) (d : Seen) (o : Bor Outcome) → n < length os → o ≡ get_or os n o
    → Some d ≡ option_map (λ l. (l, o.now)) (slice_get ls n) → zip (drop n ls) (held (drop n os)) ≡ d ∷ zip (drop (suc n) ls) (held (drop (suc n) os))
next n ls [] d o low is at = absurd (omega (arith, low))
next n [] (p ∷ os) d o low is at = absurd cc
next zero (x ∷ ls) (p ∷ os) d o low is at =
    let e : Some (x, p.now) ≡ Some d = ap (λ (q : Bor Outcome). Some (x, q.now)) (sym is) ∙ sym at in
    ap (λ (y : Seen). y ∷ zip ls (held os)) cc
next (suc n) (x ∷ ls) (p ∷ os) d o low is at = next n ls os d o (omega (arith, low)) is at

-- one dependency more
pub one_more : (ds news : List Dependency) (d : Dependency) (n : ℕ) (ls : List LabelParts) (os : List (Bor Outcome)) (o : Bor Outcome) (all : List Seen)
    → n < length os → o ≡ get_or os n o → Some (dependency_seen d) ≡ option_map (λ l. (l, o.now)) (slice_get ls n) → news ≡ ds ++ d ∷ []
    → dependencies_seen ds ++ zip (drop n ls) (held (drop n os)) ≡ all
    → dependencies_seen news ++ zip (drop (n + 1) ls) (held (drop (n + 1) os)) ≡ all
one_more ds news d n ls os o all low is at more before =
    let rest : List Seen = zip (drop (suc n) ls) (held (drop (suc n) os)) in
    ap (λ k. dependencies_seen news ++ zip (drop k ls) (held (drop k os))) (add-one n)
    ∙ ap (λ xs. dependencies_seen xs ++ rest) more
    ∙ ap (λ xs. xs ++ rest) (map-append dependency_seen ds (d ∷ []))
    ∙ append_assoc (dependencies_seen ds) (dependency_seen d ∷ []) rest
    ∙ ap (λ xs. dependencies_seen ds ++ xs) (sym (next n ls os (dependency_seen d) o low is at))
    ∙ before

-- no label is left
pub none_left : (n : ℕ) (ls : List LabelParts) (o : Outcome) (os : List Outcome) → option_map (paired o) (slice_get ls n) ≡ None → zip (drop n ls) os ≡ []
none_left zero [] o os at = refl
none_left (suc n) [] o os at = refl
none_left zero (x ∷ ls) o os at = absurd cc
none_left (suc n) (x ∷ ls) o os at = none_left n ls o os at

without_outcomes : (ls : List LabelParts) → zip {X = Outcome} ls [] ≡ []
without_outcomes [] = refl
without_outcomes (l ∷ ls) = refl

-- and no outcome is
pub none_due : (n : ℕ) (ls : List LabelParts) (os : List (Bor Outcome)) → length os ≤ n → zip (drop n ls) (held (drop n os)) ≡ []
none_due zero ls [] low = without_outcomes ls
none_due zero ls (p ∷ os) low = absurd (omega (arith, low))
none_due (suc n) ls [] low = without_outcomes (drop (suc n) ls)
none_due (suc n) [] (p ∷ os) low = refl
none_due (suc n) (x ∷ ls) (p ∷ os) low = none_due n ls os (omega (arith, low))

-- then all stand there
pub all_given : (ds : List Dependency) (rest all : List Seen) → dependencies_seen ds ++ rest ≡ all → rest ≡ [] → dependencies_seen ds ≡ all
all_given ds rest all before none = sym (append-nil (dependencies_seen ds)) ∙ ap (λ xs. dependencies_seen ds ++ xs) (sym none) ∙ before
