-- All modules of a workspace are coherent together, and what follows of the depsets that stand in them.
use Rattle.std.proofs.Common.{◌≡◌, ℕ, true, List, [], Some, None, Bool, false, refl, subst}
use Rattle.std.specs.List.{list_any, filter}
use Rattle.std.specs.Str.{bytes_eq}
use Rattle.workspace.specs.FileKinds.{is_module}
use Rattle.workspace.specs.Labels.{label_text}
use Rattle.workspace.specs.Workspaces.{Pair, paths_of}
use Rattle.loading.specs.Loads.{Path}
use Rattle.loading.specs.Modules as loading
use Rattle.loading.specs.Together.{in_known, all_known}
use Rattle.evaluation.specs.declared.handed.Module.{Module}
use Rattle.one_tree.specs.Found.{Set}
use Rattle.holding.proofs.Assembled.{operations_keep}
use Rattle.loader.specs.MadeBefore.{attribute_at}
use Rattle.loader.specs.Files.{loads, known}
use Rattle.loader.specs.Places.{of_module}
use Rattle.workspace_laws.specs.Found.{in_module, seen}
use Rattle.workspace_laws.specs.ModuleLaws.{in_any, of_all, ModulesAreCoherent, InAnyIsCoherent, NoLabelOwns, AllAreThere, NoneIsGiven}
use Rattle.workspace_laws.proofs.Known.{tested_among, module_in, from_module, any_passing}
use Rattle.workspace_laws.proofs.Linking.{known_keep}
use Rattle.workspace_laws.proofs.ModulePlaces.{module_keeps}
use Rattle.workspace_laws.proofs.Owners.{no_file_of}
use Rattle.workspace_laws.proofs.Together.{all_together}

module _ (files : List Pair) (limit : ℕ) where
  pub modules_are_coherent : ModulesAreCoherent files limit
  modules_are_coherent =
      all_together files limit of_module (λ owner base. operations_keep owner base (λ v. []))
      (λ owner base k. module_keeps owner base (attribute_at k))

  -- what stands in some module is what loading sees of all
  pub handed : (d : Set) → in_any files limit d
      → in_known (loads files limit) seen (all_known (loads files limit) seen) d
  handed d i = let m = from_module (known files limit) (paths_of files) d i in (m.0, m.1, m.2, tested_among d (in_module m.1) m.3)

  pub in_any_is_coherent : InAnyIsCoherent files limit
  in_any_is_coherent a b i j e = modules_are_coherent.coherent a b (handed a i) (handed b j) e

  pub no_label_owns : NoLabelOwns files limit
  no_label_owns workspace is are l d i e =
      no_file_of workspace files is are.all l
      (any_passing is_module (bytes_eq (label_text l)) (paths_of files)
      (subst (λ p. list_any (bytes_eq p) (filter is_module (paths_of files)) ≡ true) e (modules_are_coherent.owned d (handed d i))))

  -- what is known is a module of the workspace
  is_listed : (q : Path) (m : Module) → known files limit q ≡ Some m
      → list_any (bytes_eq q) (paths_of files) ≡ true
  is_listed q m e = any_passing is_module (bytes_eq q) (paths_of files) (go (loading.is_module (loads files limit) q) e)
    where
      go : (b : Bool)
          → loading.value (elim b [ true ↦ Some (loading.module_of (loads files limit) q) | false ↦ None ]) ≡ Some m
          → b ≡ true
      go true e = refl
      go false e = absurd (cc)

  pub all_are_there : AllAreThere files limit
  all_are_there q m e = module_in (known files limit) (paths_of files) q m (is_listed q m e) e

  pub none_is_given : NoneIsGiven files limit
  none_is_given = known_keep (paths_of files) (known files limit) (of_all files limit) all_are_there
