-- A module comes from those that are lower.
use Rattle.std.proofs.Common.{◌≡◌, ℕ, zero, suc, ◌<◌, Bool, true, false, ◌&&◌, Option, Some, None, Result, refl, sym, ap, ◌∙◌, arith}
use Rattle.std.specs.Prelude.{nat_lt}
use Rattle.std.proofs.lemmas.Bool.Decides.{nat_tests}
use Rattle.edges.proofs.Tests.{both_and}
use Rattle.loading.specs.Loads.{Path, LoadFault}
use Rattle.loading.specs.Modules.{Sources, file, is_module, loaded, lower, height_of, module_within, module_of}

module _ {T M S K : Type 0} (w : Sources T M S K) where
  abbrev R : Type 0
  R = Result M (LoadFault S K)

  pick : (b : Bool) (x y : R) → (b ≡ true → x ≡ y) → ◌≡◌ {A = Option R} (elim b [ true ↦ Some x | false ↦ None ]) (elim b [ true ↦ Some y | false ↦ None ])
  pick true x y k = ap Some (k refl)
  pick false x y k = refl

  below : (a b : ℕ) → nat_lt a b ≡ true → a < b
  below a b e = grind (arith, nat_tests, e)

  pub lower_same : (n : ℕ) (f g : Path → R) → ((q : Path) → height_of w q < n → f q ≡ g q) → lower w n f ≡ lower w n g
  lower_same n f g k =
      λ i q. pick (is_module w q && nat_lt (height_of w q) n) (f q) (g q)
      (λ e. k q (below (height_of w q) n (both_and (is_module w q) (nat_lt (height_of w q) n) e).1)) i

  -- any two bounds that are above a module's height give it one value
  steady : (n m : ℕ) (p : Path) → height_of w p < n → height_of w p < m → module_within w n p ≡ module_within w m p
  steady zero m p low low' = absurd (omega (arith, low))
  steady (suc n) zero p low low' = absurd (omega (arith, low'))
  steady (suc n) (suc m) p low low' =
      ap (loaded w p (file w p)) (lower_same (height_of w p) (module_within w n) (module_within w m) (λ q l. steady n m q (omega (arith, l, low)) (omega (arith, l, low'))))

  pub by_loads : (p : Path) → module_of w p ≡ loaded w p (file w p) (lower w (height_of w p) (module_of w))
  by_loads p =
      ap (loaded w p (file w p)) (lower_same (height_of w p) (module_within w (height_of w p)) (module_of w) (λ q l. steady (height_of w p) (suc (height_of w q)) q l (omega arith)))

  -- ---- and nothing else does

  only_within : (f : Path → R) → ((p : Path) → f p ≡ loaded w p (file w p) (lower w (height_of w p) f)) → (n : ℕ) (p : Path) → height_of w p < n → f p ≡ module_of w p
  only_within f is zero p low = absurd (omega (arith, low))
  only_within f is (suc n) p low =
      is p
      ∙ ap (loaded w p (file w p)) (lower_same (height_of w p) f (module_of w) (λ q l. only_within f is n q (omega (arith, l, low))))
      ∙ sym (by_loads p)

  pub only_by_loads : (f : Path → R) → ((p : Path) → f p ≡ loaded w p (file w p) (lower w (height_of w p) f)) → (p : Path) → f p ≡ module_of w p
  only_by_loads f is p = only_within f is (suc (height_of w p)) p (omega arith)
