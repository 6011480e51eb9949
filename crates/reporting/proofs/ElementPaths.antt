-- One turn of the loop that writes the paths of the Files among elements.
use Rattle.std.proofs.Common.{◌≡◌, ℕ, ◌+◌, List, [], ◌∷◌, ◌++◌, drop, flat_map, map, slice_get, Some, ap, ◌∙◌, sym, refl}
use Rattle.depsets.proofs.Turns.{drop_at}
use Rattle.depsets.specs.declared.element.Element.{Element}
use Rattle.depsets.specs.declared.element.Element.TheVariants.{Text, Number, Truth, Label, File}
use Rattle.depsets.specs.declared.element.FileRef.{FileRef}
use Rattle.leaf_texts.specs.Texts.{joined_from, quoted, separator}
use Rattle.leaf_texts.proofs.TextLemmas.{parts-next}
use Rattle.claims.specs.Same.{element_paths}

module _ (es : List Element) (i : ℕ) (e : Element) (h : slice_get es i ≡ Some e) where
  abbrev texts_from : ℕ → List (List ℕ)
  texts_from k = map quoted (flat_map element_paths (drop k es))

  pub file-next : (n : ℕ) (out then p : List ℕ) → element_paths e ≡ p ∷ [] → then ≡ out ++ (separator n ++ quoted p)
      → then ++ joined_from (n + 1) (texts_from (i + 1)) ≡ out ++ joined_from n (texts_from i)
  file-next n out then p is q =
      parts-next n out (quoted p) (texts_from i) (texts_from (i + 1)) then
      (ap (λ l. map quoted (flat_map element_paths l)) (drop_at es i e h) ∙ ap (λ ps. map quoted (ps ++ flat_map element_paths (drop (i + 1) es))) is) q

  pub other-next : (n : ℕ) (out : List ℕ) → element_paths e ≡ [] → out ++ joined_from n (texts_from (i + 1)) ≡ out ++ joined_from n (texts_from i)
  other-next n out is =
      ap (λ ts. out ++ joined_from n ts)
      (sym (ap (λ l. map quoted (flat_map element_paths l)) (drop_at es i e h) ∙ ap (λ ps. map quoted (ps ++ flat_map element_paths (drop (i + 1) es))) is))

-- an element that is no File has no path
pub no_paths : (e : Element) → ((f : FileRef) → e ≡ File f → ⊥) → element_paths e ≡ []
no_paths (File f) h = absurd (h f refl)
no_paths (Text s) h = refl
no_paths (Number n) h = refl
no_paths (Truth b) h = refl
no_paths (Label s) h = refl
