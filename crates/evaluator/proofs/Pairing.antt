-- Names and values that are paired: as many of each as there are of both.
use Rattle.std.proofs.Common.{◌≡◌, ◌≤◌, ℕ, List, [], ◌∷◌, map, length, take, refl, ap, sym, ◌∙◌}
use Rattle.std.proofs.lemmas.List.{take_all}
use Rattle.std.proofs.Math.Seq.{take-nil}
use Rattle.values.specs.declared.value.Value.{Value}
use Rattle.meaning.specs.Entry.{paired}
use Rattle.operations.specs.Arguments.{Given}
use Rattle.language.specs.Language.{given_of}
use Rattle.frames.specs.Answers.{given}

names_of : {V : Type 0} (ns : List (List ℕ)) (vs : List V) → map (λ n. n.0) (paired ns vs) ≡ take (length vs) ns
names_of [] vs = sym (take-nil (length vs))
names_of (x ∷ ns) [] = refl
names_of (x ∷ ns) (v ∷ vs) = ap (λ l. x ∷ l) (names_of ns vs)

values_of : {V : Type 0} (ns : List (List ℕ)) (vs : List V) → map (λ n. n.1) (paired ns vs) ≡ take (length ns) vs
values_of [] vs = refl
values_of (x ∷ ns) [] = refl
values_of (x ∷ ns) (v ∷ vs) = ap (λ l. v ∷ l) (values_of ns vs)

abbrev pub of_both : List Value → List (List ℕ) → List Value → Given
of_both items ns vs = record { items = items; names = ns; values = vs }

both : (items : List Value) (ns : List (List ℕ)) (vs : List Value)
    → given_of (given items ns vs) ≡ of_both items (take (length vs) ns) (take (length ns) vs)
both items ns vs =
    ap (λ l. of_both items l (map (λ n. n.1) (paired ns vs))) (names_of ns vs)
    ∙ ap (of_both items (take (length vs) ns)) (values_of ns vs)

pub fewer_names : (items : List Value) (ns : List (List ℕ)) (vs : List Value) → length ns ≤ length vs
    → of_both items ns (take (length ns) vs) ≡ given_of (given items ns vs)
fewer_names items ns vs h =
    ap (λ l. of_both items l (take (length ns) vs)) (sym (take_all (length vs) ns h)) ∙ sym (both items ns vs)

pub fewer_values : (items : List Value) (ns : List (List ℕ)) (vs : List Value) → length vs ≤ length ns
    → of_both items (take (length vs) ns) vs ≡ given_of (given items ns vs)
fewer_values items ns vs h =
    ap (of_both items (take (length vs) ns)) (sym (take_all (length ns) vs h)) ∙ sym (both items ns vs)
