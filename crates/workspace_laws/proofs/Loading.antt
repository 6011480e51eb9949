-- Modules come to the same by another evaluation, if that does the same wherever the modules that it is handed are coherent and fresh.
use Rattle.std.proofs.Common.{◌≡◌, ◌∙◌, ⊎_elim, ℕ, zero, suc, ◌<◌, ◌≤◌, Bool, true, false, Option, None, Some, Result, Ok, Err, ap, arith, refl, subst, sym}
use Rattle.std.specs.Prelude.{◌&&◌, nat_lt}
use Rattle.std.proofs.lemmas.Bool.Decides.{nat_tests}
use Rattle.coherence.specs.Coherent.{AreCoherent, AreFresh}
use Rattle.loading.specs.Loads.{Path, LoadFault, Read, loads_fault}
use Rattle.loading.specs.Modules.{Sources, is_module, file, is_on_cycle, cycle_line, height_of, value, ended, linked, loaded, lower, module_of, any_module}
use Rattle.loading.specs.Together.{Seen, in_known, IfMade, all_known, AreTogether}
use Rattle.loading.specs.declared.faults.Ending.{Ending}
use Rattle.loading.specs.declared.faults.Ending.TheVariants.{Faulted, Unnamed}
use Rattle.loading.specs.declared.faults.LoadFaultKind.TheVariants.{LoadCycle}
use Rattle.loading.proofs.ByLoads.{lower_same, by_loads}
use Rattle.workspace_laws.proofs.Within.{AreModules, RunsWithin, together_within}

less : (a b : ℕ) → nat_lt a b ≡ true → a < b
less a b e = grind (arith, nat_tests, e)

module _ {T M S K D I : Type 0} (w : Sources T M S K) (s : Seen M D I) (runs : RunsWithin w s) where
  abbrev F : Type 0
  F = LoadFault S K

  abbrev h : Path → ℕ
  h = height_of w

  -- what is handed to the evaluation of a module
  abbrev handed : Path → Path → Option M
  handed p q = value (lower w (h p) (module_of w) q)

  together : AreTogether w s
  together = together_within w s runs

  -- what is lower is a module that is known
  lower_known : (n : ℕ) (q : Path) (m : M) → value (lower w n (module_of w) q) ≡ Some m
      → (is_module w q ≡ true) × (h q < n) × (value (Some (module_of w q)) ≡ Some m)
  lower_known n q m e = let k = go (is_module w q) (nat_lt (h q) n) e in (k.0, less (h q) n k.1, k.2)
    where
      go : (b c : Bool) → value (elim (b && c) [ true ↦ Some (module_of w q) | false ↦ None ]) ≡ Some m
          → (b ≡ true) × (c ≡ true) × (value (Some (module_of w q)) ≡ Some m)
      go true true e = (refl, refl, e)
      go true false e = absurd (cc)
      go false c e = absurd (cc)

  is_known : (q : Path) (m : M) → is_module w q ≡ true → value (Some (module_of w q)) ≡ Some m → all_known w s q ≡ Some m
  is_known q m there e = ap (λ b. value (elim b [ true ↦ Some (module_of w q) | false ↦ None ])) there ∙ e

  -- ---- a module's depsets are owned by modules that are no higher

  abbrev Owned : Path → Result M F → Type 0
  Owned p (Ok m) = (d : D) → s.has m d ≡ true → h (s.owner (s.id d)) ≤ h p
  Owned p (Err f) = Unit {0}

  owned_by : (q : Path) (r : Result M F) (m : M) → Owned q r → value (Some r) ≡ Some m → Owned q (Ok m)
  owned_by q (Ok x) m o e = let is : x ≡ m = cc in subst (λ y. Owned q (Ok y)) is o
  owned_by q (Err f) m o e = absurd (cc)

  module _ (p : Path) (before : (q : Path) → h q < h p → Owned q (module_of w q)) where
    lower_owned : (d : D) → in_known w s (handed p) d → h (s.owner (s.id d)) < h p
    lower_owned d (q, m, e, i) =
        let k = lower_known (h p) q m e in
        let low = k.1 in
        let o = owned_by q (module_of w q) m (before q low) k.2 d i in
        omega (arith, low, o)

    fresh : AreFresh s.id s.owner p (in_known w s (handed p))
    fresh d i e = let low = lower_owned d i in let same = ap h e in omega (arith, low, same)

    up : (d : D) → in_known w s (handed p) d → in_known w s (all_known w s) d
    up d (q, m, e, i) = let k = lower_known (h p) q m e in (q, m, is_known q m k.0 k.2, i)

    coherent : AreCoherent s.id s.owner (in_known w s (handed p))
    coherent a b i j e = together.coherent a b (up a i) (up b j) e

    within : AreModules w s (handed p)
    within q m e = (lower_known (h p) q m e).0

    made : (t : T) → IfMade w s p (in_known w s (handed p)) (w.run (handed p) p t)
    made t = runs (handed p) p t within coherent fresh

    no_higher : (a b : ℕ) → a < b → a ≤ b
    no_higher a b low = omega (arith, low)

    same_height : (a b : Path) → a ≡ b → h a ≤ h b
    same_height a b e = let same = ap h e in omega (arith, same)

    ended_owned : (r : Result M (Ending K)) → IfMade w s p (in_known w s (handed p)) r → Owned p (ended p r)
    ended_owned (Ok m) is = λ d i.
        ⊎_elim (λ older. no_higher (h (s.owner (s.id d))) (h p) (lower_owned d older)) (λ own. same_height (s.owner (s.id d)) p own.0)
        (is.theirs d i)
    ended_owned (Err (Faulted f)) is = tt
    ended_owned (Err Unnamed) is = tt

    linked_owned : (t : T) (o : Option F) → Owned p (linked w p t (lower w (h p) (module_of w)) o)
    linked_owned t (Some f) = tt
    linked_owned t None = ended_owned (w.run (handed p) p t) (made t)

    loaded_owned : (r : Result (Read T) (S × ℕ)) → Owned p (loaded w p r (lower w (h p) (module_of w)))
    loaded_owned (Err e) = tt
    loaded_owned (Ok r) = go (is_on_cycle w p)
      where
        go : (b : Bool) → Owned p (elim b [
          | true ↦ Err (record { kind = LoadCycle; path = p; line = cycle_line w p r.loads })
          | false ↦ linked w p r.tree (lower w (h p) (module_of w)) (loads_fault w.globals p (lower w (h p) (module_of w)) r.loads)
        ])
        go true = tt
        go false = linked_owned r.tree (loads_fault w.globals p (lower w (h p) (module_of w)) r.loads)

  owned_below : (n : ℕ) (p : Path) → h p < n → Owned p (module_of w p)
  owned_below zero p low = absurd (omega (arith, low))
  owned_below (suc n) p low =
      subst (Owned p) (sym (by_loads w p)) (loaded_owned p (λ q l. owned_below n q (omega (arith, l, low))) (file w p))

  before_all : (p q : Path) → h q < h p → Owned q (module_of w q)
  before_all p q low = owned_below (h p) q low

  -- ---- by the other evaluation

  module _ (other : (Path → Option M) → Path → T → Result M (Ending K))
      (alike : (known : Path → Option M) (p : Path) (t : T) → AreModules w s known
      → AreCoherent s.id s.owner (in_known w s known) → AreFresh s.id s.owner p (in_known w s known)
      → w.run known p t ≡ other known p t) where
    abbrev v : Sources T M S K
    v = record w { run = other }

    linked_alike : (p : Path) (t : T) (o : Option F)
        → linked w p t (lower w (h p) (module_of w)) o ≡ linked v p t (lower w (h p) (module_of w)) o
    linked_alike p t (Some f) = refl
    linked_alike p t None =
        let b = before_all p in ap (ended p) (alike (handed p) p t (within p b) (coherent p b) (fresh p b))

    loaded_alike : (p : Path) (r : Result (Read T) (S × ℕ))
        → loaded w p r (lower w (h p) (module_of w)) ≡ loaded v p r (lower w (h p) (module_of w))
    loaded_alike p (Err e) = refl
    loaded_alike p (Ok r) =
        ap (λ (x : Result M F). elim (is_on_cycle w p) [
          | true ↦ Err (record { kind = LoadCycle; path = p; line = cycle_line w p r.loads })
          | false ↦ x
        ])
        (linked_alike p r.tree (loads_fault w.globals p (lower w (h p) (module_of w)) r.loads))

    same_below : (n : ℕ) (p : Path) → h p < n → module_of w p ≡ module_of v p
    same_below zero p low = absurd (omega (arith, low))
    same_below (suc n) p low =
        by_loads w p ∙ loaded_alike p (file w p)
        ∙ ap (loaded v p (file w p)) (lower_same w (h p) (module_of w) (module_of v) (λ q l. same_below n q (omega (arith, l, low))))
        ∙ sym (by_loads v p)

    pub same_modules : any_module w ≡ any_module v
    same_modules = λ i q. elim (is_module w q) [ true ↦ Some (same_below (suc (h q)) q (omega arith) i) | false ↦ None ]
