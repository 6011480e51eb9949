-- Laws of what a visit of a frozen value finds.
use Rattle.std.proofs.Common.{◌≡◌, ◌+◌, List, [], ◌∷◌, ◌++◌, drop, length, true, refl, sym, ap, subst, ◌∙◌, arith}
use Rattle.std.proofs.lemmas.List.{append_assoc, drop_at, length_push}
use Rattle.values.specs.Tree.{pairs}
use Rattle.values.specs.View.{FrozenTree}
use Rattle.ticks.specs.Extents.{Measure, IsExtent, beside, one}
use Rattle.values.specs.Extents.{measure, pairs_measure, values_measure}
use Rattle.ticks.specs.declared.extent.Extent.{Extent}
use Rattle.keys.specs.declared.key.Key.{Key}

-- a loop that goes back over xs: those that are left stand before the others
abbrev pub AreLeft : {A : Type 0} → List A → List A → Type 0
AreLeft xs left = left ++ drop (length left) xs ≡ xs

-- one turn of it
module _ {A : Type 0} (xs left less : List A) (x : A) (p : left ≡ less ++ x ∷ []) (before : AreLeft xs left) where
  one_less : length left ≡ length less + 1
  one_less = ap length p ∙ length_push less x

  whole : less ++ x ∷ drop (length left) xs ≡ xs
  whole = sym (append_assoc less (x ∷ []) (drop (length left) xs)) ∙ ap (λ l. l ++ drop (length left) xs) (sym p) ∙ before

  behind_less : drop (length less) xs ≡ x ∷ drop (length left) xs
  behind_less = ap (drop (length less)) (sym whole) ∙ drop_at less (x ∷ drop (length left) xs) (length less) refl

  pub are_left : AreLeft xs less
  are_left = ap (λ l. less ++ l) behind_less ∙ whole

  -- what is found of those behind, and of one before them
  pub gathered : (m : List A → Measure) (g : A → Measure → Measure) → ((y : A) (ys : List A) → m (y ∷ ys) ≡ g y (m ys))
      → (e new : Extent) → IsExtent e (m (drop (length left) xs)) → ((n : Measure) → IsExtent e n → IsExtent new (g x n)) → IsExtent new (m (drop (length less) xs))
  gathered m g law e new behind step =
      subst (IsExtent new) (sym (ap m behind_less ∙ law x (drop (length left) xs))) (step (m (drop (length left) xs)) behind)

-- of entries by place, keys count as one each
pub pairs-values : (ks : List Key) (ts : List FrozenTree) → length ks ≡ length ts → pairs_measure (pairs ks ts) ≡ values_measure ts
pairs-values [] [] h = refl
pairs-values [] (t ∷ ts) h = absurd (omega arith)
pairs-values (k ∷ ks) [] h = absurd (omega arith)
pairs-values (k ∷ ks) (t ∷ ts) h =
    let rest = pairs-values ks ts (omega arith) in
    ap (λ m. beside (one true) (beside (measure t) m)) rest
