-- What labels name, among packages that are kept.
use Rattle.std.proofs.Common.{◌≡◌, ◌⊎◌, ℕ, suc, inl, inr, Bool, true, false, ◌&&◌, ◌||◌, cond, List, [], ◌∷◌, ◌++◌, ◌+◌, length, map, Option, Some, None, Result, Ok, Err, sym, ap, ◌∙◌, subst, arith, refl, true≢false, lt-ltb, ltb-true}
use Rattle.std.specs.Prelude.{is_some, not, nat_lt, position, option_map, if◌then◌else◌, bytes_eq}
use Rattle.std.specs.List.{list_any, filter, position_or_len, IsDistinct}
use Rattle.std.specs.Map.{lookup}
use Rattle.std.specs.Cmp.{IsEquivalence}
use Rattle.std.proofs.lemmas.Map.Keys.{IsDistinct-push}
use Rattle.lexer.specs.declared.fault.FaultKind.{FaultKind}
use Rattle.ticks.specs.declared.ticks.Kind.{Kind}
use Rattle.depsets.specs.Keys.{keep, keep_all, firsts}
use Rattle.workspace.specs.FileKinds.{is_build_file, package_of}
use Rattle.workspace.specs.Labels.{LabelParts, is_label, same_label}
use Rattle.workspace.specs.Workspaces.{Pair, paths_of}
use Rattle.loading.specs.Loads.{Path, LoadFault}
use Rattle.targets.proofs.Facts.{cases_of, neither}
use Rattle.graph.specs.Same.{same_label-equiv}
use Rattle.targets.specs.Attributes.{labels_of}
use Rattle.targets.specs.Resolving.{dependencies, Package, no_build_file, faulty, declaring, source_file, nothing, named, named_in, named_dependencies, is_file, target_or_file}
use Rattle.targets.specs.declared.target.Target.{Target}
use Rattle.loader.specs.Files.{build_at}
use Rattle.loader.specs.Loaded.{LoadedView}
use Rattle.packages.specs.declared.kept.Package.{Package as Kept}
use Rattle.packages.specs.Packages.{first, build_file_of, package_with, package_of_file, package_at, packages, AreListed}
use Rattle.packages.specs.declared.all_targets.Declaration.{Declaration}
use Rattle.packages.specs.declared.all_targets.Declaration.TheVariants as found
use Rattle.packages.specs.Seen.{found_named}
use Rattle.packages.specs.Kept.{Fault, Table, kept_with, kept_at, package_seen, AreAll}

-- ---- each label once

pub none_twice : {K : Type 0} (eq : K → K → Bool) → IsDistinct eq []
unfolding IsDistinct
none_twice eq = tt

module _ {K : Type 0} {eq : K → K → Bool} (laws : IsEquivalence eq) where
  kept_once : (b : Bool) (ks : List K) (k : K) → list_any (eq k) ks ≡ b → IsDistinct eq ks → IsDistinct eq (if b then ks else ks ++ k ∷ [])
  kept_once true ks k h d = d
  kept_once false ks k h d = IsDistinct-push laws ks k d h

  all_once : (ks xs : List K) → IsDistinct eq ks → IsDistinct eq (keep_all eq ks xs)
  all_once ks [] d = d
  all_once ks (x ∷ xs) d = all_once (keep eq ks x) xs (kept_once (list_any (eq x) ks) ks x refl d)

  pub firsts_once : (xs : List K) → IsDistinct eq (firsts eq xs)
  firsts_once xs = all_once [] xs (none_twice eq)

pub dependencies_once : (t : Target) (ds : List LabelParts) → ds ≡ dependencies t → IsDistinct same_label ds
dependencies_once t ds are = subst (IsDistinct same_label) (sym are) (firsts_once same_label-equiv (labels_of t))

-- ---- a file at a path

some_cond : (b : Bool) (n : ℕ) → is_some (cond b (Some n) None) ≡ b
some_cond true n = refl
some_cond false n = refl

below_next : (a b : ℕ) → nat_lt (1 + a) (suc b) ≡ nat_lt a b
below_next a b = elim (cases_of (nat_lt a b)) [
  | inl less ↦ let l = ltb-true a b less in lt-ltb (1 + a) (suc b) (omega (arith, l)) ∙ sym less
  | inr more ↦ elim (cases_of (nat_lt (1 + a) (suc b))) [
    | inl less ↦ let l = ltb-true (1 + a) (suc b) less in absurd (true≢false (sym (lt-ltb a b (omega (arith, l))) ∙ more))
    | inr still ↦ still ∙ sym more
  ]
]

module _ {X : Type 0} (p : X → Bool) where
  low_is : (xs : List X) → nat_lt (position_or_len p xs) (length xs) ≡ list_any p xs
  low_is [] = refl
  low_is (x ∷ xs) = go (p x) (low_is xs)
    where
      go : (b : Bool) → nat_lt (position_or_len p xs) (length xs) ≡ list_any p xs → nat_lt (cond (not b) (1 + position_or_len p xs) 0) (suc (length xs)) ≡ (b || list_any p xs)
      go true h = lt-ltb 0 (suc (length xs)) (omega arith)
      go false h = below_next (position_or_len p xs) (length xs) ∙ h

  pub placed_is : (xs : List X) → is_some (position p xs) ≡ list_any p xs
  placed_is xs = some_cond (nat_lt (position_or_len p xs) (length xs)) (position_or_len p xs) ∙ low_is xs

-- ---- what a label names

seen_with : (r : Result (List Target) (LoadFault FaultKind Kind)) → package_seen (Some (kept_with r)) ≡ package_with r
seen_with (Ok ts) = refl
seen_with (Err f) = refl

module _ (files : List Pair) (limit : ℕ) where
  seen_at : (o : Option Path) → package_seen (option_map (kept_at files limit) o) ≡ package_of_file files limit o
  seen_at None = refl
  seen_at (Some path) = seen_with (build_at files limit path)

  pub named_is : (l : LabelParts) (table : Table) (told : List Fault) (o : Option Kept) → is_label l ≡ true → AreAll files limit table told → o ≡ lookup (bytes_eq l.«package») table
      → named_in (paths_of files) (package_at files limit) l (package_seen o) ≡ named (paths_of files) (package_at files limit) l
  named_is l table told o legal all is =
      ap (λ x. named_in (paths_of files) (package_at files limit) l (package_seen x)) (is ∙ all.packages_are l.«package»)
      ∙ ap (named_in (paths_of files) (package_at files limit) l) (seen_at (build_file_of (paths_of files) l.«package»))
      ∙ sym (ap (λ b. elim b [ true ↦ named_in (paths_of files) (package_at files limit) l (package_at files limit l.«package») | false ↦ nothing ]) legal)

  no_file_needs : (l : LabelParts) → named_dependencies (target_or_file (paths_of files) (package_at files limit) l None) ≡ []
  no_file_needs l = go (is_file (paths_of files) (package_at files limit) l)
    where
      go : (b : Bool) → named_dependencies (if b then source_file else nothing) ≡ []
      go true = refl
      go false = refl

  abbrev needed : LabelParts → Declaration → List LabelParts
  needed l d = named_dependencies (found_named (paths_of files) (package_at files limit) l d)

  pub none_needed : (l : LabelParts) (d : Declaration) → (d ≡ found.Undeclared) ⊎ ((d ≡ found.FailedPackage) ⊎ (d ≡ found.NoPackage)) → named_dependencies (found_named (paths_of files) (package_at files limit) l d) ≡ []
  none_needed l d (inl e) = ap (needed l) e ∙ no_file_needs l
  none_needed l d (inr (inl e)) = ap (needed l) e
  none_needed l d (inr (inr e)) = ap (needed l) e

  -- ---- what declares targets is a package

  not_first : (p : List ℕ) (qs : List Path) → list_any (bytes_eq p) (map package_of (filter is_build_file qs)) ≡ false → build_file_of qs p ≡ None
  not_first p [] h = refl
  not_first p (q ∷ qs) h = elim (cases_of (is_build_file q)) [
    | inl is ↦
        let all : (bytes_eq p (package_of q) || list_any (bytes_eq p) (map package_of (filter is_build_file qs))) ≡ false =
        sym (ap (λ b. list_any (bytes_eq p) (map package_of (cond b (q ∷ filter is_build_file qs) (filter is_build_file qs)))) is) ∙ h in
        let apart = neither (bytes_eq p (package_of q)) (list_any (bytes_eq p) (map package_of (filter is_build_file qs))) all in
        ap (λ b. first (cond (b && bytes_eq p (package_of q)) (q ∷ rest) rest)) is ∙ ap (λ b. first (cond b (q ∷ rest) rest)) apart.0 ∙ not_first p qs apart.1
    | inr not ↦
        ap (λ b. first (cond (b && bytes_eq p (package_of q)) (q ∷ rest) rest)) not
        ∙ not_first p qs (sym (ap (λ b. list_any (bytes_eq p) (map package_of (cond b (q ∷ filter is_build_file qs) (filter is_build_file qs)))) not) ∙ h)
  ]
    where
      rest : List Path
      rest = filter (λ x. is_build_file x && bytes_eq p (package_of x)) qs

  abbrev has_targets : Package → Bool
  has_targets no_build_file = false
  has_targets faulty = false
  has_targets (declaring ts) = true

  pub are_listed : AreListed files limit
  are_listed p ts h = elim (cases_of (list_any (bytes_eq p) (packages files limit))) [
    | inl is ↦ is
    | inr not ↦ absurd (true≢false (sym (ap has_targets h) ∙ ap (λ o. has_targets (package_of_file files limit o)) (not_first p (paths_of files) not)))
  ]

-- ---- what is found of a label

pub found_is : (v v' : LoadedView) (l : LabelParts) (asked : List ℕ) (table : Table) (told : List Fault) (o : Option Kept) → v ≡ v' → is_label l ≡ true → AreAll v.files v.limit table told → asked ≡ l.«package» → o ≡ lookup (bytes_eq asked) table
    → named_in (paths_of v'.files) (package_at v'.files v'.limit) l (package_seen o) ≡ named (paths_of v'.files) (package_at v'.files v'.limit) l
found_is v v' l asked table told o same legal all is got =
    subst (λ (x : LoadedView). named_in (paths_of x.files) (package_at x.files x.limit) l (package_seen o) ≡ named (paths_of x.files) (package_at x.files x.limit) l) same
    (named_is v.files v.limit l table told o legal all (got ∙ ap (λ p. lookup (bytes_eq p) table) is))
