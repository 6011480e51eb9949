-- Files that are declared: few in a list, or many that are found by hash.
use Rattle.std.proofs.Common.{◌≡◌, ◌∙◌, false, List, [], ◌∷◌, ◌++◌, append_assoc, append-nil, refl, sym, ap}
use Rattle.std.proofs.lemmas.Bool.{or_from}
use Rattle.depsets.proofs.Keys.{keep-absent}
use Rattle.depsets.specs.Keys.{keep, keep_all}
use Rattle.depsets.specs.declared.element.FileRef.{FileRef}
use Rattle.targets.proofs.Facts.{neither}
use Rattle.contexts.specs.Works.{same_file, is_among, repeats_after, repeats, many_or_few}

more_after : (seen fs : List FileRef) (f : FileRef) → repeats_after seen fs ≡ false → is_among f (seen ++ fs) ≡ false → repeats_after seen (fs ++ f ∷ []) ≡ false
more_after seen [] f once new =
    or_from (is_among f seen) false (ap (is_among f) (sym (append-nil seen)) ∙ new) refl
more_after seen (x ∷ fs) f once new =
    let parts = neither (is_among x seen) (repeats_after (seen ++ x ∷ []) fs) once in
    or_from (is_among x seen) (repeats_after (seen ++ x ∷ []) (fs ++ f ∷ [])) parts.0
    (more_after (seen ++ x ∷ []) fs f parts.1 (ap (is_among f) (append_assoc seen (x ∷ []) fs) ∙ new))

-- one that isn't among Files that stand there once
pub distinct_more : (fs : List FileRef) (f : FileRef) → repeats fs ≡ false → is_among f fs ≡ false → repeats (fs ++ f ∷ []) ≡ false
distinct_more fs f once new = more_after [] fs f once new

kept_after : (seen fs : List FileRef) → repeats_after seen fs ≡ false → keep_all same_file seen fs ≡ seen ++ fs
kept_after seen [] once = sym (append-nil seen)
kept_after seen (x ∷ fs) once =
    let parts = neither (is_among x seen) (repeats_after (seen ++ x ∷ []) fs) once in
    ap (λ (ks : List FileRef). keep_all same_file ks fs) (keep-absent same_file seen x parts.0)
    ∙ kept_after (seen ++ x ∷ []) fs parts.1 ∙ append_assoc seen (x ∷ []) fs

-- where there are many, they are all
pub last_of_many : (fs few : List FileRef) (f : FileRef) → many_or_few (fs ++ f ∷ []) few ≡ fs ++ f ∷ []
last_of_many [] few f = refl
last_of_many (x ∷ fs) few f = refl

-- Files that stand there once, and one more, each kept at its first place
pub many_made : (fs few made : List FileRef) (f : FileRef) → repeats fs ≡ false → is_among f fs ≡ false → made ≡ keep same_file (keep_all same_file [] fs) f
    → many_or_few made few ≡ fs ++ f ∷ []
many_made fs few made f once new is =
    let all : made ≡ fs ++ f ∷ [] = is ∙ ap (λ (ks : List FileRef). keep same_file ks f) (kept_after [] fs once) ∙ keep-absent same_file fs f new in
    ap (λ (ks : List FileRef). many_or_few ks few) all ∙ last_of_many fs few f
