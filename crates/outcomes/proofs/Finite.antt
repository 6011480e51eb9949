-- Only declared targets have dependencies.
use Rattle.std.proofs.Common.{◌≡◌, inl, inr, ◌∙◌, Bool, true, ◌||◌, List, [], ◌∷◌, Contains, map, sym, ap, subst, refl}
use Rattle.std.proofs.lemmas.List.Folds.{list_any-append}
use Rattle.std.proofs.lemmas.Slice.Eq.{bytes_eq-Decides}
use Rattle.std.specs.List.{list_any, flat_map}
use Rattle.std.specs.Str.{bytes_eq}
use Rattle.workspace.specs.Labels.{LabelParts, same_label}
use Rattle.targets.specs.Resolving.{Named, target, source_file, failed_package, nothing, named_dependencies, named}
use Rattle.targets.specs.declared.target.Target.{Target}
use Rattle.targets.proofs.Facts.{cases_of, none_in, in_split, or_left, or_right, same_label-own}
use Rattle.targets.proofs.NamedTargets.{is_named}
use Rattle.outcomes.specs.Workspaces.{Workspace, AllAreListed, declared_in, declared, dependencies}

-- some list of a flat_map has one that passes
any_within : {A B : Type 0} (p : B → Bool) (f : A → List B) (q : A → Bool) → ((x : A) → q x ≡ true → list_any p (f x) ≡ true) → (xs : List A) → list_any q xs ≡ true → list_any p (flat_map f xs) ≡ true
any_within p f q agree [] h = h
any_within p f q agree (x ∷ xs) h = elim (cases_of (q x)) [
  | inl is ↦ list_any-append p (f x) (flat_map f xs) ∙ or_left (list_any p (f x)) (list_any p (flat_map f xs)) (agree x is)
  | inr not ↦ list_any-append p (f x) (flat_map f xs) ∙ or_right (list_any p (f x)) (list_any p (flat_map f xs)) (any_within p f q agree xs (sym (ap (λ b. b || list_any q xs) not) ∙ h))
]

-- a target of a list has its label there
declared_there : (ts : List Target) (t : Target) → Contains ts t → list_any (same_label t.label) (map (λ u. u.label) ts) ≡ true
declared_there [] t c = absurd (none_in t c)
declared_there (u ∷ us) t c = elim (in_split u us t c) [
  | inl e ↦ or_left (same_label t.label u.label) (list_any (same_label t.label) (map (λ v. v.label) us)) (subst (λ (x : Target). same_label t.label x.label ≡ true) (sym e) (same_label-own t.label))
  | inr later ↦ or_right (same_label t.label u.label) (list_any (same_label t.label) (map (λ v. v.label) us)) (declared_there us t later)
]

module _ (w : Workspace) (listed : AllAreListed w) where
  of_target : (l : LabelParts) (t : Target) → named w.paths w.package_at l ≡ target t → list_any (same_label l) (declared w) ≡ true
  of_target l t is =
      let n = is_named w.paths w.package_at l t is in
      let ts = n.declared.0 in
      any_within (same_label l) (λ p. declared_in (w.package_at p)) (bytes_eq l.«package»)
      (λ p same. subst (λ q. list_any (same_label l) (declared_in q) ≡ true) (sym n.declared.1 ∙ ap w.package_at ((bytes_eq-Decides l.«package» p).0 same))
      (subst (λ (m : LabelParts). list_any (same_label m) (map (λ u. u.label) ts) ≡ true) n.its (declared_there ts t n.declared.2)))
      w.packages (listed l.«package» ts n.declared.1)

  -- what has dependencies is a declared target
  pub finite : (l d : LabelParts) → Contains (dependencies w l) d → list_any (same_label l) (declared w) ≡ true
  finite l d c = at (named w.paths w.package_at l) refl c
    where
      at : (r : Named) → named w.paths w.package_at l ≡ r → Contains (named_dependencies r) d → list_any (same_label l) (declared w) ≡ true
      at (target t) is h = of_target l t is
      at source_file is h = absurd (none_in d h)
      at failed_package is h = absurd (none_in d h)
      at nothing is h = absurd (none_in d h)
