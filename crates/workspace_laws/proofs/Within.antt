-- It is enough that evaluation keeps coherence where the modules that it is handed are the workspace's own: loading hands it no others.
use Rattle.std.proofs.Common.{◌≡◌, ◌⊎◌, inl, inr, ℕ, zero, suc, Bool, true, false, Option, None, Some, Result, Ok, Err, sym, ap, ◌∙◌, subst, refl}
use Rattle.std.specs.Prelude.{◌≤◌, if◌then◌else◌, ◌&&◌, nat_lt}
use Rattle.coherence.specs.Coherent.{Depsets, AreCoherent, AreFresh, IsMade}
use Rattle.loading.specs.Loads.{Path, LoadFault, Read, loads_fault}
use Rattle.loading.specs.declared.faults.LoadFaultKind.TheVariants.{LoadCycle}
use Rattle.loading.specs.declared.faults.Ending.{Ending}
use Rattle.loading.specs.Modules.{Sources, is_module, file, is_on_cycle, cycle_line, height_of, value, ended, linked, loaded, lower, module_within}
use Rattle.loading.specs.Together.{Seen, in_known, IfMade, RunsWell, all_known, AreTogether}
use Rattle.loading.proofs.Kept.{modules_together}

-- what was given may be more, if that is coherent and fresh for the owner
more_given : {D I O : Type 0} (id : D → I) (owner : I → O) (serial : I → ℕ) (o : O) (few all made : Depsets D)
    → ((d : D) → few d → all d)
    → AreCoherent id owner all → AreFresh id owner o all → IsMade id owner serial o few made → IsMade id owner serial o all made
more_given {D} id owner serial o few all made up coherent fresh is = record {
  together = λ a b i j e. both a b i j e;
  theirs = λ d i. elim (is.theirs d i) [
    | inl older ↦ inl (up d older)
    | inr own ↦ inr own
  ];
}
  where
    with_made : (a b : D) → all a → made b → id a ≡ id b → few b ⊎ ((owner (id b) ≡ o) × (1 ≤ serial (id b)))
        → a ≡ b
    with_made a b i j e (inl older) = coherent a b i (up b older) e
    with_made a b i j e (inr own) = absurd (fresh a i (ap owner e ∙ own.0))

    both : (a b : D) → all a ⊎ made a → all b ⊎ made b → id a ≡ id b → a ≡ b
    both a b (inl i) (inl j) e = coherent a b i j e
    both a b (inl i) (inr j) e = with_made a b i j e (is.theirs b j)
    both a b (inr i) (inl j) e = sym (with_made b a j i (sym e) (is.theirs a i))
    both a b (inr i) (inr j) e = is.together a b (inr i) (inr j) e

module _ {T M S K D I : Type 0} (w : Sources T M S K) (s : Seen M D I) where
  abbrev F : Type 0
  F = LoadFault S K

  -- ---- only modules of the workspace are handed

  abbrev pub AreModules : (Path → Option M) → Type 0
  AreModules known = (q : Path) (m : M) → known q ≡ Some m → is_module w q ≡ true

  -- evaluation keeps coherence, of modules of the workspace
  abbrev pub RunsWithin : Type 0
  RunsWithin =
      (known : Path → Option M) (p : Path) (t : T) → AreModules known
      → AreCoherent s.id s.owner (in_known w s known) → AreFresh s.id s.owner p (in_known w s known)
      → IfMade w s p (in_known w s known) (w.run known p t)

  abbrev restricted : (Path → Option M) → Path → Option M
  restricted known q = if is_module w q then known q else None

  -- an evaluation that sees no others
  abbrev narrow : Sources T M S K
  narrow = record w { run = λ known p t. w.run (restricted known) p t }

  none_some : {P : Type 0} (m : M) → ◌≡◌ {A = Option M} None (Some m) → P
  none_some m e = absurd (cc)

  was_known : (known : Path → Option M) (q : Path) (m : M) → restricted known q ≡ Some m
      → (is_module w q ≡ true) × (known q ≡ Some m)
  was_known known q m e = go (is_module w q) e
    where
      go : (b : Bool) → (if b then known q else None) ≡ Some m → (b ≡ true) × (known q ≡ Some m)
      go true e = (refl, e)
      go false e = none_some m e

  kept_known : (known : Path → Option M) (d : D) → in_known w s (restricted known) d → in_known w s known d
  kept_known known d (q, m, e, i) = (q, m, (was_known known q m e).1, i)

  if_made : (p : Path) (few all : Depsets D) (r : Result M (Ending K)) → ((d : D) → few d → all d)
      → AreCoherent s.id s.owner all → AreFresh s.id s.owner p all → IfMade w s p few r → IfMade w s p all r
  if_made p few all (Ok m) up coherent fresh is = more_given s.id s.owner s.serial p few all (λ d. s.has m d ≡ true) up coherent fresh is
  if_made p few all (Err e) up coherent fresh is = tt

  narrow_runs : RunsWithin → RunsWell narrow s
  narrow_runs runs known p t coherent fresh =
      let up = kept_known known in
      if_made p (in_known w s (restricted known)) (in_known w s known) (w.run (restricted known) p t) up coherent fresh
      (runs (restricted known) p t (λ q m e. (was_known known q m e).0)
      (λ a b i j e. coherent a b (up a i) (up b j) e) (λ a i e. fresh a (up a i) e))

  -- ---- so each module comes to the same

  handed_same : (h : ℕ) (f : Path → Result M F)
      → restricted (λ q. value (lower w h f q)) ≡ (λ q. value (lower w h f q))
  handed_same h f = λ i q. go (is_module w q) (nat_lt (height_of w q) h) (f q) i
    where
      go : (b c : Bool) (r : Result M F)
          → (if b then value (elim (b && c) [ true ↦ Some r | false ↦ None ]) else None)
          ≡ value (elim (b && c) [ true ↦ Some r | false ↦ None ])
      go true c r = refl
      go false c r = refl

  linked_same : (h : ℕ) (f : Path → Result M F) (p : Path) (t : T) (o : Option F)
      → linked narrow p t (lower w h f) o ≡ linked w p t (lower w h f) o
  linked_same h f p t (Some e) = refl
  linked_same h f p t None = ap (λ known. ended p (w.run known p t)) (handed_same h f)

  loaded_same : (h : ℕ) (f : Path → Result M F) (p : Path) (r : Result (Read T) (S × ℕ))
      → loaded narrow p r (lower w h f) ≡ loaded w p r (lower w h f)
  loaded_same h f p (Err e) = refl
  loaded_same h f p (Ok r) =
      ap (λ (x : Result M F). elim (is_on_cycle w p) [
        | true ↦ Err (record { kind = LoadCycle; path = p; line = cycle_line w p r.loads })
        | false ↦ x
      ])
      (linked_same h f p r.tree (loads_fault w.globals p (lower w h f) r.loads))

  within_same : (n : ℕ) (p : Path) → module_within narrow n p ≡ module_within w n p
  within_same zero p = refl
  within_same (suc n) p =
      ap (λ (f : Path → Result M F). loaded narrow p (file w p) (lower w (height_of w p) f)) (λ i q. within_same n q i)
      ∙ loaded_same (height_of w p) (module_within w n) p (file w p)

  known_same : all_known narrow s ≡ all_known w s
  known_same = λ i q. value (elim (is_module w q) [ true ↦ Some (within_same (suc (height_of w q)) q i) | false ↦ None ])

  pub together_within : RunsWithin → AreTogether w s
  together_within runs =
      let all = modules_together narrow s (narrow_runs runs) in
      let there : (d : D) → in_known w s (all_known w s) d → in_known w s (all_known narrow s) d =
      λ d i. subst (λ known. in_known w s known d) (sym known_same) i in
      record {
        coherent = λ a b i j e. all.coherent a b (there a i) (there b j) e;
        owned = λ d i. all.owned d (there d i);
      }
