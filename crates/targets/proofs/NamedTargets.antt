-- A label that names a target is that target's.
use Rattle.std.proofs.Common.{◌≡◌, ◌∙◌, ℕ, Bool, true, false, List, [], ◌∷◌, Option, Some, None, Contains, ap, sym, refl, subst}
use Rattle.std.specs.Prelude.{if◌then◌else◌}
use Rattle.workspace.specs.Labels.{LabelParts, is_label, same_label}
use Rattle.targets.specs.Resolving.{Package, no_build_file, faulty, declaring, Named, target, source_file, nothing, target_with, is_file, target_or_file, named_in, named}
use Rattle.targets.specs.Laws.{IsNamed}
use Rattle.targets.specs.declared.target.Target.{Target}
use Rattle.targets.proofs.Facts.{head_in, tail_in, same_label-same}

pub found : (l : LabelParts) (ts : List Target) (t : Target) → target_with l ts ≡ Some t → (t.label ≡ l) × Contains ts t
found l [] t e = absurd (cc)
found l (u ∷ us) t e = at (same_label l u.label) refl (found l us t) e
  where
    at : (b : Bool) → same_label l u.label ≡ b → (target_with l us ≡ Some t → (t.label ≡ l) × Contains us t) → (if b then Some u else target_with l us) ≡ Some t → (t.label ≡ l) × Contains (u ∷ us) t
    at true is k h =
        let same : u ≡ t = cc in
        (sym (ap (λ (x : Target). x.label) same) ∙ sym (same_label-same l u.label is), subst (λ (x : Target). Contains (u ∷ us) x) same (head_in u us))
    at false is k h = let r = k h in (r.0, tail_in u us t r.1)

module _ (paths : List (List ℕ)) (package_at : List ℕ → Package) (l : LabelParts) (t : Target) where
  in_package : (p : Package) → package_at l.«package» ≡ p → is_label l ≡ true → named_in paths package_at l p ≡ target t → IsNamed package_at l t
  in_package no_build_file is legal e = absurd (cc)
  in_package faulty is legal e = absurd (cc)
  in_package (declaring ts) is legal e = at (target_with l ts) refl e
    where
      no_file : (b : Bool) → (if b then source_file else nothing) ≡ target t → ⊥
      no_file true h = cc
      no_file false h = cc

      at : (o : Option Target) → target_with l ts ≡ o → target_or_file paths package_at l o ≡ target t → IsNamed package_at l t
      at None is2 h = absurd (no_file (is_file paths package_at l) h)
      at (Some u) is2 h =
          let same : u ≡ t = cc in
          let f = found l ts t (is2 ∙ ap (λ (x : Target). Some x) same) in
          record { its = f.0; legal = legal; declared = (ts, is, f.1) }

  pub is_named : named paths package_at l ≡ target t → IsNamed package_at l t
  is_named e = at (is_label l) refl e
    where
      at : (b : Bool) → is_label l ≡ b → ◌≡◌ {A = Named} (elim b [ true ↦ named_in paths package_at l (package_at l.«package») | false ↦ nothing ]) (target t) → IsNamed package_at l t
      at true legal h = in_package (package_at l.«package») refl legal h
      at false legal h = absurd (cc)
