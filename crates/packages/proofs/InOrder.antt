-- What files came to, one after the other.
use Rattle.std.proofs.Common.{◌≡◌, ℕ, suc, ◌+◌, ◌<◌, List, [], ◌∷◌, length, get_or, Option, subst, arith}
use Rattle.workspace.specs.Workspaces.{Pair, paths_of}
use Rattle.packages.specs.Built.{Built, IsBuiltAt, AreBuilt, AreBuiltFrom}

module _ (files : List Pair) (limit : ℕ) where
  built_from : (n : ℕ) (os : List (Option Built)) → n + length os ≡ length (paths_of files)
      → ((i : ℕ) (d : Option Built) → i < length os → IsBuiltAt files limit (n + i) (get_or os i d)) → AreBuiltFrom files limit n os
  built_from n [] len each = omega (arith, len)
  built_from n (o ∷ os) len each =
      let first : n + 0 ≡ n = omega arith in (
        omega (arith, len),
        (
          subst (λ m. IsBuiltAt files limit m o) first (each 0 o (omega arith)),
          built_from (n + 1) os (omega (arith, len)) (λ i d low.
              let next : n + suc i ≡ n + 1 + i = omega arith in
              subst (λ m. IsBuiltAt files limit m (get_or os i d)) next (each (suc i) d (omega (arith, low)))),
        ),
      )

  pub all_built_from : (all : List (Option Built)) → AreBuilt files limit all → AreBuiltFrom files limit 0 all
  all_built_from all are = built_from 0 all (omega (arith, are.len)) (λ i d low.
      let same : i ≡ 0 + i = omega arith in
      subst (λ m. IsBuiltAt files limit m (get_or all i d)) same (are.each i d low))
