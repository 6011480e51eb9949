-- What `BUILD` files load: a label of anything but a module finds no file, whether or not it is told beforehand.
use Rattle.std.proofs.Common.{◌≡◌, ◌∙◌, ℕ, Bool, true, false, List, [], ◌∷◌, map, Result, Ok, Err, Option, Some, None, refl, sym, ap}
use Rattle.std.specs.Prelude.{if◌then◌else◌, option_and_then}
use Rattle.std.specs.Option.{option_or}
use Rattle.loading.specs.Loads.{Path, Load, Read, LoadFault, module_path, module_fault, of_module, of_modules, loads_fault}
use Rattle.loading.specs.Modules.{Sources, is_module, any_module, module_of, build_linked, built, value}
use Rattle.loading.specs.declared.faults.Placed.{Placed}
use Rattle.modules.specs.Modules.{ModulesView, module_in, modules_of}
use Rattle.modules.proofs.Outcomes.{are_found}

module _ {T M S K : Type 0} (w : Sources T M S K) where
  no_file : (q : Path) (b : Bool) → is_module w q ≡ b
      → option_and_then (any_module w) (if b then Some q else None) ≡ any_module w q
  no_file q true e = refl
  no_file q false e = sym (ap (λ b. elim b [ true ↦ Some (module_of w q) | false ↦ None ]) e)

  module _ (p : Path) where
    found_same : (t : Option Path)
        → option_and_then (any_module w) (module_path (is_module w) t) ≡ option_and_then (any_module w) t
    found_same None = refl
    found_same (Some q) = no_file q (is_module w q) refl

    fault_same : (l : Load) (t : Option Path) (o : Option (Result M (LoadFault S K)))
        → module_fault w.globals p (record { line = l.line; target = t; asked = l.asked }) o ≡ module_fault w.globals p l o
    fault_same l t None = refl
    fault_same l t (Some (Err f)) = refl
    fault_same l t (Some (Ok m)) = refl

    loads_same : (ls : List Load) → loads_fault w.globals p (any_module w) (map (of_module (is_module w)) ls)
        ≡ loads_fault w.globals p (any_module w) ls
    loads_same [] = refl
    loads_same (l ∷ ls) =
        ap (λ o. option_or (module_fault w.globals p (of_module (is_module w) l) o)
        (loads_fault w.globals p (any_module w) (map (of_module (is_module w)) ls))) (found_same l.target)
        ∙ ap (λ f. option_or f (loads_fault w.globals p (any_module w) (map (of_module (is_module w)) ls)))
        (fault_same l (module_path (is_module w) l.target) (option_and_then (any_module w) l.target))
        ∙ ap (option_or (module_fault w.globals p l (option_and_then (any_module w) l.target))) (loads_same ls)

    module _ {B : Type 0} (run : (Path → Option M) → Path → T → Result B (Placed K)) where
      pub built_same : (r : Result (Read T) (S × ℕ)) → built w run p (of_modules (is_module w) r) ≡ built w run p r
      built_same (Err e) = refl
      built_same (Ok r) = ap (build_linked w run p r.tree) (loads_same r.loads)

-- all modules that have no fault, by path
pub known_all : {T M S K : Type 0} (w : Sources T M S K) (m : ModulesView M S K) → m ≡ modules_of w
    → ◌≡◌ {A = Path → Option M} (module_in m) (λ q. value (any_module w q))
known_all w m e =
    let at : (q : Path) → module_in m q ≡ value (any_module w q) = λ q. ap (λ x. module_in x q) e ∙ are_found w q in
    λ i q. at q i
