-- The packages of a workspace are the same by plain listings.
use Rattle.std.proofs.Common.{◌≡◌, ℕ, Bool, true, false, cond, List, [], ◌∷◌, filter, Option, Some, None, ap, refl, subst}
use Rattle.std.specs.Prelude.{◌&&◌}
use Rattle.std.specs.Str.{bytes_eq}
use Rattle.edges.proofs.Tests.{both_and}
use Rattle.workspace.specs.FileKinds.{is_build_file, is_module, package_of}
use Rattle.workspace.specs.Workspaces.{Pair, paths_of}
use Rattle.loading.specs.Loads.{Path}
use Rattle.packages.specs.Packages.{first, build_file_of, package_with}
use Rattle.packages.specs.Packages as usual
use Rattle.packages.proofs.Files.{kinds_apart}
use Rattle.workspace_laws.specs.PlainLaws.{PackagesAreTheSame}
use Rattle.workspace_laws.specs.Workspaces.{package_of_file, package_at}
use Rattle.workspace_laws.proofs.Files.{build_same}

first_passes : (f : Path → Bool) (qs : List Path) (q : Path) → first (filter f qs) ≡ Some q → f q ≡ true
first_passes f [] q e = absurd (cc)
first_passes f (x ∷ qs) q e = go (f x) refl (first_passes f qs q) e
  where
    go : (b : Bool) → f x ≡ b → (first (filter f qs) ≡ Some q → f q ≡ true)
        → first (cond b (x ∷ filter f qs) (filter f qs)) ≡ Some q → f q ≡ true
    go true is later e = let same : x ≡ q = cc in subst (λ z. f z ≡ true) same is
    go false is later e = later e

not_module : (path : Path) → is_build_file path ≡ true → is_module path ≡ false
not_module path build = go (is_module path) refl
  where
    go : (b : Bool) → is_module path ≡ b → is_module path ≡ false
    go true bzl = absurd (kinds_apart path build bzl)
    go false not = not

module _ (files : List Pair) (limit : ℕ) where
  package_same : (p : List ℕ) → usual.package_at files limit p ≡ package_at files limit p
  package_same p = go (build_file_of (paths_of files) p) refl
    where
      go : (o : Option Path) → build_file_of (paths_of files) p ≡ o
          → usual.package_of_file files limit o ≡ package_of_file files limit o
      go None is = refl
      go (Some path) is =
          let asked : Path → Bool = λ q. is_build_file q && bytes_eq p (package_of q) in
          let found = both_and (is_build_file path) (bytes_eq p (package_of path)) (first_passes asked (paths_of files) path is) in
          ap package_with (build_same files limit path (not_module path found.0))

  pub packages_same : PackagesAreTheSame files limit
  packages_same = λ i p. package_same p i
