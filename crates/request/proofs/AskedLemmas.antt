-- The labels of a list of texts.
use Rattle.std.proofs.Common.{◌≡◌, ◌∙◌, ◌<◌, ◌+◌, ◌++◌, ℕ, List, [], ◌∷◌, Option, None, Some, length, take, drop, map, refl, ap, sym, get_or, suc}
use Rattle.std.proofs.lemmas.List.{map-append, take-append-drop, take_more}
use Rattle.std.proofs.Math.Seq.{drop-cons}
use Rattle.std.specs.Prelude.{option_and_then, option_map}
use Rattle.std.specs.Borrow.{Bor}
use Rattle.workspace.specs.Labels.{LabelParts, label_of}
use Rattle.request.specs.Asked.{each_label}

-- one text more, which is a label
each_label-push : (texts : List (List ℕ)) (text : List ℕ) (l : LabelParts) → label_of text None ≡ Some l
    → each_label (texts ++ text ∷ []) ≡ option_map (λ ls. ls ++ l ∷ []) (each_label texts)
each_label-push [] text l is = rw is refl
each_label-push (t ∷ ts) text l is = rw (each_label-push ts text l is) (go (label_of t None) (each_label ts))
  where
    go : (first : Option LabelParts) (rest : Option (List LabelParts))
        → option_and_then (λ x. option_map (λ ls. x ∷ ls) (option_map (λ ls. ls ++ l ∷ []) rest)) first
        ≡ option_map (λ ls. ls ++ l ∷ []) (option_and_then (λ x. option_map (λ ls. x ∷ ls) rest) first)
    go None rest = refl
    go (Some x) None = refl
    go (Some x) (Some ls) = refl

-- a text among them that is no label
each_label-none : (front : List (List ℕ)) (text : List ℕ) (back : List (List ℕ)) → label_of text None ≡ None
    → each_label (front ++ text ∷ back) ≡ None
each_label-none [] text back is = rw is refl
each_label-none (t ∷ ts) text back is = rw (each_label-none ts text back is) (go (label_of t None))
  where
    nothing : Option (List LabelParts)
    nothing = None

    go : (first : Option LabelParts) → option_and_then (λ x. option_map (λ ls. x ∷ ls) nothing) first ≡ None
    go None = refl
    go (Some x) = refl

-- a turn of the loop over the texts
pub each_label-step : (texts : List (Bor (List ℕ))) (i : ℕ) (d : Bor (List ℕ)) (ls : List LabelParts) (l : LabelParts) → i < length texts
    → each_label (map (λ s. s.now) (take i texts)) ≡ Some ls → label_of (get_or texts i d).now None ≡ Some l
    → each_label (map (λ s. s.now) (take (i + 1) texts)) ≡ Some (ls ++ l ∷ [])
each_label-step texts i d ls l lt done is =
    let more : map (λ s. s.now) (take (i + 1) texts) ≡ map (λ s. s.now) (take i texts) ++ (get_or texts i d).now ∷ []
    = ap (map (λ (s : Bor (List ℕ)). s.now)) (take_more texts i d lt) ∙ map-append (λ (s : Bor (List ℕ)). s.now) (take i texts) (get_or texts i d ∷ []) in
    ap each_label more ∙ each_label-push (map (λ s. s.now) (take i texts)) (get_or texts i d).now l is
    ∙ ap (option_map (λ (xs : List LabelParts). xs ++ l ∷ [])) done

pub each_label-refused : (texts : List (Bor (List ℕ))) (i : ℕ) (d : Bor (List ℕ)) → i < length texts → label_of (get_or texts i d).now None ≡ None
    → each_label (map (λ s. s.now) texts) ≡ None
each_label-refused texts i d lt is =
    let whole : texts ≡ take i texts ++ get_or texts i d ∷ drop (suc i) texts
    = sym (take-append-drop i texts) ∙ ap (λ (rest : List (Bor (List ℕ))). take i texts ++ rest) (drop-cons texts i d lt) in
    ap (λ (ts : List (Bor (List ℕ))). each_label (map (λ s. s.now) ts)) whole
    ∙ ap each_label (map-append (λ (s : Bor (List ℕ)). s.now) (take i texts) (get_or texts i d ∷ drop (suc i) texts))
    ∙ each_label-none (map (λ s. s.now) (take i texts)) (get_or texts i d).now (map (λ s. s.now) (drop (suc i) texts)) is
