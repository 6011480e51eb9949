-- The fault of a load cycle stands at the first statement from which a walk leads back.
use Rattle.std.proofs.Common.{◌≡◌, inl, inr, ℕ, zero, suc, Bool, true, false, List, [], ◌∷◌, ◌++◌, length, Option, Some, None, Result, Ok, Err, Contains, sym, ap, ◌∙◌, subst, refl, arith, true≢false}
use Rattle.std.specs.Prelude.{if◌then◌else◌}
use Rattle.std.specs.List.{cons_option}
use Rattle.edges.specs.Walks.{OnCycle}
use Rattle.edges.proofs.Tests.{cases_of, not_both}
use Rattle.loading.specs.Loads.{Path, Load, LoadFault, Read, loads_fault}
use Rattle.loading.specs.Modules.{Sources, is_module, file, targets, targets_in, loads_of, is_on_cycle, height_of, leads_to, cycle_line, linked, loaded, lower, module_within}
use Rattle.loading.specs.Laws.{LeadsBack, StandsWhereCycleBegins}
use Rattle.loading.specs.declared.faults.LoadFaultKind.TheVariants.{LoadCycle}
use Rattle.loading.proofs.Trails.{walk_from_reaches, reaches_all}
use Rattle.loading.proofs.Sources.{loaded_module, to_test}

module _ {T M S K : Type 0} (w : Sources T M S K) (p : Path) where
  -- ---- the test of a statement tells walks

  back_from_test : (l : Load) (t : Option Path) → l.target ≡ t → leads_to w p t ≡ true → LeadsBack w p l
  back_from_test l None e h = absurd (true≢false (sym h))
  back_from_test l (Some q) e h = (q, e, walk_from_reaches (loads_of w) (length w.modules) q p h)

  test_from_back : (l : Load) → LeadsBack w p l → leads_to w p l.target ≡ true
  test_from_back l b = ap (leads_to w p) b.1 ∙ reaches_all (loads_of w) w.modules (loaded_module w) b.2.0 b.0 p b.2.1

  -- ---- the first statement with such a walk

  -- the statements of a list before the first that leads back, that one, and those behind it
  record IsFirst (ls : List Load) : Type 0 where
    before : List Load
    first : Load
    behind : List Load
    loads : ls ≡ before ++ first ∷ behind
    back : LeadsBack w p first
    none_before : (l : Load) → Contains before l → LeadsBack w p l → ⊥
    line : cycle_line w p ls ≡ first.line

  first_here : (l : Load) (ls : List Load) → leads_to w p l.target ≡ true → IsFirst (l ∷ ls)
  first_here l ls h = record {
    before = [];
    first = l;
    behind = ls;
    loads = refl;
    back = back_from_test l l.target refl h;
    none_before = λ m c b. absurd (omega (arith, c.1));
    line = ap (λ b. if b then l.line else cycle_line w p ls) h;
  }

  none_yet : (l : Load) (before : List Load) → leads_to w p l.target ≡ false → ((m : Load) → Contains before m → LeadsBack w p m → ⊥) → (m : Load) → Contains (l ∷ before) m → LeadsBack w p m → ⊥
  none_yet l before off none m (zero, low, is) b = not_both (leads_to w p l.target) (test_from_back l (subst (LeadsBack w p) (sym is) b)) off
  none_yet l before off none m (suc k, low, is) b = none m (k, omega (arith, low), is) b

  first_later : (l : Load) (ls : List Load) → leads_to w p l.target ≡ false → IsFirst ls → IsFirst (l ∷ ls)
  first_later l ls off f = record {
    before = l ∷ f.before;
    first = f.first;
    behind = f.behind;
    loads = ap (λ ms. l ∷ ms) f.loads;
    back = f.back;
    none_before = none_yet l f.before off f.none_before;
    line = ap (λ b. if b then l.line else cycle_line w p ls) off ∙ f.line;
  }

  -- what isn't loaded by the first statement is loaded by a later one
  later : (t : Option Path) (qs : List Path) (q : Path) → leads_to w p t ≡ false → leads_to w p (Some q) ≡ true → Contains (cons_option t qs) q → Contains qs q
  later None qs q off on c = c
  later (Some x) qs q off on (zero, low, is) = not_both (leads_to w p (Some q)) on (subst (λ y. leads_to w p (Some y) ≡ false) is off)
  later (Some x) qs q off on (suc k, low, is) = (k, omega (arith, low), is)

  first_back : (ls : List Load) (q : Path) → leads_to w p (Some q) ≡ true → Contains (targets ls) q → IsFirst ls
  first_back [] q on c = absurd (omega (arith, c.1))
  first_back (l ∷ ls) q on c = elim (cases_of (leads_to w p l.target)) [
    | inl here ↦ first_here l ls here
    | inr off ↦ first_later l ls off (first_back ls q on (later l.target (targets ls) q off on c))
  ]

  -- ---- a file on a cycle

  abbrev R : Type 0
  R = Result M (LoadFault S K)

  fault_is : (r : Read T) (n : ℕ) (at : Path → Option R) → is_on_cycle w p ≡ true → cycle_line w p r.loads ≡ n → loaded w p (Ok r) at ≡ Err (record { kind = LoadCycle; path = p; line = n })
  fault_is r n at on line =
      ap (λ (b : Bool). elim b [
        | true ↦ Err (record { kind = LoadCycle; path = p; line = cycle_line w p r.loads })
        | false ↦ linked w p r.tree at (loads_fault w.globals p at r.loads)
      ])
      on
      ∙ ap (λ (n : ℕ). Err (record { kind = LoadCycle; path = p; line = n })) line

  stands : (r : Read T) → file w p ≡ Ok r → is_on_cycle w p ≡ true → IsFirst r.loads → StandsWhereCycleBegins w p
  stands r is on f = record {
    read = r;
    is_read = is;
    before = f.before;
    first = f.first;
    behind = f.behind;
    loads = f.loads;
    back = f.back;
    none_before = f.none_before;
    line = f.line;
    fault = ap (λ x. loaded w p x below) is ∙ fault_is r f.first.line below on f.line;
  }
    where
      below : Path → Option R
      below = lower w (height_of w p) (module_within w (height_of w p))

  -- what loads is a module that is read
  read_of : (x : Result (Read T) (S × ℕ)) (q : Path) → Contains (targets_in x) q → (r : Read T) × (x ≡ Ok r) × Contains (targets r.loads) q
  read_of (Ok r) q c = (r, refl, c)
  read_of (Err e) q c = absurd (omega (arith, c.1))

  of_file : (q : Path) → Contains (loads_of w p) q → Contains (targets_in (file w p)) q
  of_file q c = go (is_module w p) c
    where
      go : (b : Bool) → Contains (if b then targets_in (file w p) else []) q → Contains (targets_in (file w p)) q
      go true c = c
      go false c = absurd (omega (arith, c.1))

  pub cycle_stands : OnCycle (loads_of w) p → StandsWhereCycleBegins w p
  cycle_stands around =
      let q = around.1.0 in
      let r = read_of (file w p) q (of_file q around.1.1) in
      let on : leads_to w p (Some q) ≡ true = reaches_all (loads_of w) w.modules (loaded_module w) around.0 q p around.1.2 in
      stands r.0 r.1 (to_test w p around) (first_back r.0.loads q on r.2)
