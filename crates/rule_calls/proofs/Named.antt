-- Targets of a package that stand under their names.
use Rattle.std.proofs.Common.{◌≡◌, ◌∙◌, ℕ, Bool, true, false, ◌&&◌, ◌||◌, if◌then◌else◌, List, [], ◌∷◌, ◌++◌, map, Option, Some, None, ap, sym, refl}
use Rattle.std.proofs.lemmas.List.{map-append}
use Rattle.std.proofs.lemmas.Slice.Eq.{bytes_eq-Decides}
use Rattle.std.specs.Map.{lookup}
use Rattle.std.specs.Borrow.{Bor}
use Rattle.std.specs.Prelude.{is_some, option_copied}
use Rattle.std.specs.Str.{bytes_eq}
use Rattle.indexmap.specs.IndexMap.{insert_entry}
use Rattle.workspace.specs.Labels.{LabelParts, same_label}
use Rattle.targets.proofs.Facts.{both, neither, same_label-same, same_label-own}
use Rattle.targets.specs.Resolving.{target_with}
use Rattle.targets.specs.RuleCalls.{has_declared}
use Rattle.targets.specs.declared.target.Target.{Target}
use Rattle.rule_calls.specs.Packages.{is_named, are_named}

pub copied_some : {A : Type 0} (o : Option (Bor A)) → is_some o ≡ is_some (option_copied o)
copied_some None = refl
copied_some (Some a) = refl

pub has_is : (l : LabelParts) (ts : List Target) → is_some (target_with l ts) ≡ has_declared ts l
has_is l [] = refl
has_is l (t ∷ ts) = at (same_label l t.label) (has_is l ts)
  where
    at : (b : Bool) → is_some (target_with l ts) ≡ has_declared ts l → is_some (if b then Some t else target_with l ts) ≡ (b || has_declared ts l)
    at true h = refl
    at false h = h

module _ (p : List ℕ) where
  -- its label is the asked one where its name is, if the package is
  by_name : (l : LabelParts) (e : List ℕ × Target) → is_named p e ≡ true → same_label l e.1.label ≡ (bytes_eq l.«package» p && bytes_eq l.name e.0)
  by_name l e n = ap (same_label l) (sym (same_label-same (record { «package» = p; name = e.0 }) e.1.label n))

  pub found_here : (l : LabelParts) (es : List (List ℕ × Target)) → are_named p es ≡ true → bytes_eq l.«package» p ≡ true
      → lookup (bytes_eq l.name) es ≡ target_with l (map (λ e. e.1) es)
  found_here l [] h q = refl
  found_here l (e ∷ es) h q =
      let parts = both (is_named p e) (are_named p es) h in
      let same : bytes_eq l.name e.0 ≡ same_label l e.1.label = sym (by_name l e parts.0 ∙ ap (λ b. b && bytes_eq l.name e.0) q) in
      λ i. if same i then Some e.1 else found_here l es parts.1 q i

  pub none_elsewhere : (l : LabelParts) (es : List (List ℕ × Target)) → are_named p es ≡ true → bytes_eq l.«package» p ≡ false
      → None ≡ target_with l (map (λ e. e.1) es)
  none_elsewhere l [] h q = refl
  none_elsewhere l (e ∷ es) h q =
      let parts = both (is_named p e) (are_named p es) h in
      let not : same_label l e.1.label ≡ false = by_name l e parts.0 ∙ ap (λ b. b && bytes_eq l.name e.0) q in
      none_elsewhere l es parts.1 q ∙ sym (ap (λ b. if b then Some e.1 else target_with l (map (λ e. e.1) es)) not)

  own : (t : Target) → t.label.«package» ≡ p → is_named p (t.label.name, t) ≡ true
  own t here = ap (λ q. same_label (record { «package» = q; name = t.label.name }) t.label) (sym here) ∙ same_label-own t.label

  -- one more, which is new there
  pub put_last : (es : List (List ℕ × Target)) (t : Target) → are_named p es ≡ true → t.label.«package» ≡ p → has_declared (map (λ e. e.1) es) t.label ≡ false
      → insert_entry bytes_eq es t.label.name t ≡ es ++ (t.label.name, t) ∷ []
  put_last [] t h here new = refl
  put_last (e ∷ es) t h here new =
      let parts = both (is_named p e) (are_named p es) h in
      let news = neither (same_label t.label e.1.label) (has_declared (map (λ e. e.1) es) t.label) new in
      let q : bytes_eq t.label.«package» p ≡ true = (bytes_eq-Decides t.label.«package» p).1 here in
      let other : bytes_eq t.label.name e.0 ≡ false = sym (by_name t.label e parts.0 ∙ ap (λ b. b && bytes_eq t.label.name e.0) q) ∙ news.0 in
      ap (λ b. if b then (e.0, t) ∷ es else e ∷ insert_entry bytes_eq es t.label.name t) other ∙ ap (λ (fs : List (List ℕ × Target)). e ∷ fs) (put_last es t parts.1 here news.1)

  pub all_named : (es : List (List ℕ × Target)) (t : Target) → are_named p es ≡ true → t.label.«package» ≡ p → are_named p (es ++ (t.label.name, t) ∷ []) ≡ true
  all_named [] t h here = ap (λ b. b && true) (own t here)
  all_named (e ∷ es) t h here =
      let parts = both (is_named p e) (are_named p es) h in
      ap (λ b. b && are_named p (es ++ (t.label.name, t) ∷ [])) parts.0 ∙ all_named es t parts.1 here

  pub targets_last : (es : List (List ℕ × Target)) (t : Target) → map (λ e. e.1) (es ++ (t.label.name, t) ∷ []) ≡ map (λ e. e.1) es ++ t ∷ []
  targets_last es t = map-append (λ e. e.1) es ((t.label.name, t) ∷ [])
