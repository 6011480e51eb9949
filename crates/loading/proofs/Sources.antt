-- Of a workspace: that modules alone load and are loaded, and what follows for its cycles and heights.
use Rattle.std.proofs.Common.{◌≡◌, ℕ, zero, suc, Bool, true, false, List, [], ◌∷◌, map, Contains, Option, Some, None, Result, Ok, Err, subst, arith, refl, ap, lt-ltb}
use Rattle.std.specs.Prelude.{if◌then◌else◌, nat_lt}
use Rattle.std.specs.List.{cons_option}
use Rattle.edges.specs.Walks.{OnCycle}
use Rattle.edges.proofs.Tests.{and_both}
use Rattle.loading.specs.Loads.{Path, Load, LoadFault, Read, module_path, of_module, of_modules}
use Rattle.loading.specs.Modules.{Sources, is_module, file, targets, targets_in, loads_of, is_on_cycle, height_of, is_lower, lower, module_of}
use Rattle.loading.proofs.Trails.{cycle_from_test, test_from_cycle}
use Rattle.loading.proofs.Heights.{load_is_lower}

module _ {T M S K : Type 0} (w : Sources T M S K) where
  of_one : (t : Option Path) (qs : List Path) (q : Path) → Contains (cons_option (module_path (is_module w) t) qs) q → (Contains qs q → is_module w q ≡ true) → is_module w q ≡ true
  of_one None qs q c k = k c
  of_one (Some x) qs q c k = go (is_module w x) refl c
    where
      take : is_module w x ≡ true → Contains (x ∷ qs) q → is_module w q ≡ true
      take e (zero, low, is) = subst (λ y. is_module w y ≡ true) is e
      take e (suc j, low, is) = k (j, omega (arith, low), is)

      go : (b : Bool) → is_module w x ≡ b → Contains (cons_option (if b then Some x else None) qs) q → is_module w q ≡ true
      go true e c = take e c
      go false e c = k c

  of_targets : (ls : List Load) (q : Path) → Contains (targets (map (of_module (is_module w)) ls)) q → is_module w q ≡ true
  of_targets [] q c = absurd (omega (arith, c.1))
  of_targets (l ∷ ls) q c = of_one l.target (targets (map (of_module (is_module w)) ls)) q c (of_targets ls q)

  of_file : (r : Result (Read T) (S × ℕ)) (q : Path) → Contains (targets_in (of_modules (is_module w) r)) q → is_module w q ≡ true
  of_file (Ok r) q c = of_targets r.loads q c
  of_file (Err e) q c = absurd (omega (arith, c.1))

  pub both_modules : (p q : Path) → Contains (loads_of w p) q → (is_module w p ≡ true) × (is_module w q ≡ true)
  both_modules p q c = go (is_module w p) refl c
    where
      go : (b : Bool) → is_module w p ≡ b → Contains (if b then targets_in (file w p) else []) q → (is_module w p ≡ true) × (is_module w q ≡ true)
      go true e c = (e, of_file (w.read p) q c)
      go false e c = absurd (omega (arith, c.1))

  pub loaded_module : (p q : Path) → Contains (loads_of w p) q → is_module w q ≡ true
  loaded_module p q c = (both_modules p q c).1

  pub loading_module : (p q : Path) → Contains (loads_of w p) q → is_module w p ≡ true
  loading_module p q c = (both_modules p q c).0

  pub from_test : (p : Path) → is_on_cycle w p ≡ true → OnCycle (loads_of w) p
  from_test p h = cycle_from_test (loads_of w) w.modules loaded_module p h

  pub to_test : (p : Path) → OnCycle (loads_of w) p → is_on_cycle w p ≡ true
  to_test p c = test_from_cycle (loads_of w) w.modules loaded_module p c

  pub loads_are_lower : (p q : Path) → is_on_cycle w p ≡ false → Contains (loads_of w p) q → lower w (height_of w p) (module_of w) q ≡ Some (module_of w q)
  loads_are_lower p q off c =
      let low = load_is_lower (loads_of w) w.modules loaded_module loading_module p q off c in
      let e : is_lower w (height_of w p) q ≡ true = and_both (is_module w q) (nat_lt (height_of w q) (height_of w p)) (loaded_module p q c) (lt-ltb (height_of w q) (height_of w p) low) in
      ap (λ b. picked b) e
    where
      picked : Bool → Option (Result M (LoadFault S K))
      picked b = elim b [ true ↦ Some (module_of w q) | false ↦ None ]
