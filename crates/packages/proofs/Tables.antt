-- Packages that are found by name.
use Rattle.std.proofs.Common.{◌≡◌, ℕ, inl, inr, Bool, true, false, cond, List, Option, Some, None, sym, ap, ◌∙◌, refl, true≢false}
use Rattle.std.specs.Prelude.{is_some, if◌then◌else◌}
use Rattle.std.specs.Option.{option_or}
use Rattle.std.specs.Str.{bytes_eq}
use Rattle.std.specs.Map.{lookup}
use Rattle.std.proofs.lemmas.Slice.Eq.{bytes_eq-Decides}
use Rattle.targets.proofs.Facts.{cases_of}
use Rattle.packages.specs.declared.kept.Package.{Package as Kept}
use Rattle.packages.specs.Kept.{Table}

pub first_none : {A : Type 0} (a : Option A) → option_or a None ≡ a
first_none None = refl
first_none (Some x) = refl

-- a name and another are compared either way
turned : (p q : List ℕ) → bytes_eq p q ≡ false → bytes_eq q p ≡ false
turned p q h = elim (cases_of (bytes_eq q p)) [
  | inl same ↦ absurd (true≢false (sym ((bytes_eq-Decides p q).1 (sym ((bytes_eq-Decides q p).0 same))) ∙ h))
  | inr not ↦ not
]

-- ---- one more package

module _ (name : List ℕ) (x : Kept) (old : Table) (p : List ℕ) where
  abbrev chosen : Bool → Option Kept
  chosen b = option_or (lookup (bytes_eq p) old) (if b then Some x else None)

  pub more_new : lookup (bytes_eq name) old ≡ None → cond (bytes_eq name p) (Some x) (lookup (bytes_eq p) old) ≡ option_or (lookup (bytes_eq p) old) (if bytes_eq p name then Some x else None)
  more_new none = elim (cases_of (bytes_eq name p)) [
    | inl same ↦
        let is : name ≡ p = (bytes_eq-Decides name p).0 same in
        let gone : lookup (bytes_eq p) old ≡ None = ap (λ q. lookup (bytes_eq q) old) (sym is) ∙ none in
        ap (λ b. cond b (Some x) (lookup (bytes_eq p) old)) same
        ∙ sym (ap (λ o. option_or o (if bytes_eq p name then Some x else None)) gone ∙ ap (λ b. if b then Some x else None) ((bytes_eq-Decides p name).1 (sym is)))
    | inr other ↦
        ap (λ b. cond b (Some x) (lookup (bytes_eq p) old)) other ∙ sym (first_none (lookup (bytes_eq p) old)) ∙ ap chosen (sym (turned name p other))
  ]

  pub more_old : is_some (lookup (bytes_eq name) old) ≡ true → lookup (bytes_eq p) old ≡ option_or (lookup (bytes_eq p) old) (if bytes_eq p name then Some x else None)
  more_old some = elim (cases_of (bytes_eq p name)) [
    | inl same ↦ kept_first (lookup (bytes_eq p) old) (if bytes_eq p name then Some x else None) (ap (λ q. is_some (lookup (bytes_eq q) old)) ((bytes_eq-Decides p name).0 same) ∙ some)
    | inr other ↦ sym (first_none (lookup (bytes_eq p) old)) ∙ ap chosen (sym other)
  ]
    where
      kept_first : {A : Type 0} (o later : Option A) → is_some o ≡ true → o ≡ option_or o later
      kept_first None later h = absurd (true≢false (sym h))
      kept_first (Some y) later h = refl
