-- All modules together are coherent: along the modules that are lower, where each keeps coherence.
use Rattle.std.proofs.Common.{◌≡◌, ◌⊎◌, inl, inr, ℕ, zero, suc, ◌<◌, ◌≤◌, Bool, true, false, List, [], ◌∷◌, cond, Option, None, Some, Result, Ok, Err, Contains, sym, ap, ◌∙◌, subst, refl, arith, true≢false, filter}
use Rattle.std.specs.Prelude.{nat_lt, if◌then◌else◌}
use Rattle.std.specs.Str.{bytes_eq}
use Rattle.std.proofs.lemmas.Bool.Decides.{nat_tests}
use Rattle.std.proofs.lemmas.Map.Views.{Contains-from_any}
use Rattle.std.proofs.lemmas.Slice.Eq.{bytes_eq-Decides}
use Rattle.edges.specs.Walks.{Walk, Cyclic}
use Rattle.edges.proofs.Tests.{cases_of, both_and, Contains-later}
use Rattle.coherence.specs.Coherent.{Depsets, AreCoherent, AreFresh, IsMade}
use Rattle.coherence.specs.Together.{Graph, given, IsKept, EachKeeps, AllCoherent}
use Rattle.coherence.proofs.Homes.{all_together}
use Rattle.loading.specs.Loads.{Path, LoadFault, Read, loads_fault}
use Rattle.loading.specs.declared.faults.LoadFaultKind.TheVariants.{LoadCycle}
use Rattle.loading.specs.declared.faults.Ending.{Ending}
use Rattle.loading.specs.declared.faults.Ending.TheVariants.{Faulted, Unnamed}
use Rattle.loading.specs.Modules.{Sources, is_module, file, is_on_cycle, cycle_line, height_of, value, ended, linked, loaded, is_lower, lower, module_of}
use Rattle.loading.specs.Together.{Seen, in_known, IfMade, RunsWell, all_known, AreTogether}
use Rattle.loading.proofs.ByLoads.{by_loads}

-- ---- lists that are filtered

Contains-filter : {A : Type 0} (p : A → Bool) (xs : List A) (x : A) → Contains xs x → p x ≡ true → Contains (filter p xs) x
Contains-filter p [] x c h = absurd (omega (arith, c.1))
Contains-filter p (y ∷ xs) x (zero, low, is) h = subst (λ b. Contains (cond b (y ∷ filter p xs) (filter p xs)) x) (sym (subst (λ z. p z ≡ true) (sym is) h)) (0, omega arith, is)
Contains-filter p (y ∷ xs) x (suc k, low, is) h = go (p y) (Contains-filter p xs x (k, omega (arith, low), is) h)
  where
    go : (b : Bool) → Contains (filter p xs) x → Contains (cond b (y ∷ filter p xs) (filter p xs)) x
    go true c = Contains-later y (filter p xs) x c
    go false c = c

passes_one : {A : Type 0} (p : A → Bool) (y x : A) (rest : List A) (b : Bool) → p y ≡ b → (Contains rest x → p x ≡ true) → Contains (cond b (y ∷ rest) rest) x → p x ≡ true
passes_one p y x rest true e later (zero, low, is) = subst (λ z. p z ≡ true) is e
passes_one p y x rest true e later (suc k, low, is) = later (k, omega (arith, low), is)
passes_one p y x rest false e later c = later c

filter-passes : {A : Type 0} (p : A → Bool) (xs : List A) (x : A) → Contains (filter p xs) x → p x ≡ true
filter-passes p [] x c = absurd (omega (arith, c.1))
filter-passes p (y ∷ xs) x c = passes_one p y x (filter p xs) (p y) refl (filter-passes p xs x) c

module _ {T M S K D I : Type 0} (w : Sources T M S K) (s : Seen M D I) (runs : RunsWell w s) where
  abbrev F : Type 0
  F = LoadFault S K

  abbrev h : Path → ℕ
  h = height_of w

  -- the modules that are lower than one
  abbrev deps : Path → List Path
  deps p = if is_module w p then filter (λ q. is_lower w (h p) q) w.modules else []

  abbrev has : Option M → Depsets D
  has None d = ⊥
  has (Some m) d = s.has m d ≡ true

  abbrev known : Path → Option M
  known = all_known w s

  abbrev g : Graph Path (Option M) D I Path
  g = record { deps = deps; out = known; has = has; id = s.id; owner = s.owner; name = λ p. p; named = λ p. is_module w p ≡ true; base = λ d. ⊥ }

  -- ---- what is lower

  deps_lower : (p q : Path) → Contains (deps p) q → (is_module w p ≡ true) × (is_lower w (h p) q ≡ true)
  deps_lower p q c = go (is_module w p) refl c
    where
      go : (b : Bool) → is_module w p ≡ b → Contains (if b then filter (λ q. is_lower w (h p) q) w.modules else []) q → (is_module w p ≡ true) × (is_lower w (h p) q ≡ true)
      go true e c = (e, filter-passes (λ q. is_lower w (h p) q) w.modules q c)
      go false e c = absurd (omega (arith, c.1))

  lower_deps : (p q : Path) → is_module w p ≡ true → is_lower w (h p) q ≡ true → Contains (deps p) q
  lower_deps p q named low =
      let listed : Contains w.modules q = Contains-from_any (λ x y. (bytes_eq-Decides x y).0) q w.modules (both_and (is_module w q) (nat_lt (h q) (h p)) low).0 in
      subst (λ b. Contains (if b then filter (λ x. is_lower w (h p) x) w.modules else []) q) (sym named) (Contains-filter (λ x. is_lower w (h p) x) w.modules q listed low)

  below : (a b : ℕ) → nat_lt a b ≡ true → a < b
  below a b e = grind (arith, nat_tests, e)

  falls : (p q : Path) → Contains (deps p) q → h q < h p
  falls p q c = below (h q) (h p) (both_and (is_module w q) (nat_lt (h q) (h p)) (deps_lower p q c).1).1

  walk_falls : (n : ℕ) (a b : Path) → Walk deps n a b → h b ≤ h a
  walk_falls zero a b e = let same = ap h e in omega (arith, same)
  walk_falls (suc n) a b x = let f = falls a x.0 x.1 in let r = walk_falls n x.0 b x.2 in omega (arith, f, r)

  no_cycle : (t : Path) → Cyclic deps t → ⊥
  no_cycle t c =
      let around = c.2.1 in
      let f = falls c.0 around.0 around.1 in
      let r = walk_falls c.2.0 around.0 c.0 around.2 in
      omega (arith, f, r)

  -- ---- what the modules that are handed to an evaluation have is what its node is given

  abbrev handed : Path → Path → Option M
  handed p q = value (lower w (h p) (module_of w) q)

  known_is : (q : Path) → is_module w q ≡ true → known q ≡ value (Some (module_of w q))
  known_is q e = ap (λ b. value (elim b [ true ↦ Some (module_of w q) | false ↦ None ])) e

  handed_is : (p q : Path) → is_lower w (h p) q ≡ true → handed p q ≡ value (Some (module_of w q))
  handed_is p q e = ap (λ b. value (elim b [ true ↦ Some (module_of w q) | false ↦ None ])) e

  some_none : {P : Type 0} (m : M) → ◌≡◌ {A = Option M} None (Some m) → P
  some_none m e = absurd (true≢false (sym (ap is_some e)))
    where
      is_some : Option M → Bool
      is_some None = false
      is_some (Some x) = true

  handed_lower : (p q : Path) (m : M) → handed p q ≡ Some m → is_lower w (h p) q ≡ true
  handed_lower p q m e = go (is_lower w (h p) q) e
    where
      go : (b : Bool) → value (elim b [ true ↦ Some (module_of w q) | false ↦ None ]) ≡ Some m → b ≡ true
      go true e = refl
      go false e = some_none m e

  to_given : (p : Path) (d : D) → is_module w p ≡ true → in_known w s (handed p) d → given g p d
  to_given p d named (q, m, e, i) =
      let low = handed_lower p q m e in
      let there = (both_and (is_module w q) (nat_lt (h q) (h p)) low).0 in
      let is : known q ≡ Some m = known_is q there ∙ sym (handed_is p q low) ∙ e in
      inr (q, lower_deps p q named low, subst (λ v. has v d) (sym is) i)

  module_in : (o : Option M) (d : D) → has o d → (m : M) × (o ≡ Some m) × (s.has m d ≡ true)
  module_in None d never = absurd never
  module_in (Some m) d i = (m, refl, i)

  from_given : (p : Path) (d : D) → given g p d → in_known w s (handed p) d
  from_given p d (inl never) = absurd never
  from_given p d (inr (q, c, i)) =
      let low = (deps_lower p q c).1 in
      let there = (both_and (is_module w q) (nat_lt (h q) (h p)) low).0 in
      let m = module_in (known q) d i in
      (q, m.0, handed_is p q low ∙ sym (known_is q there) ∙ m.1, m.2)

  -- ---- a module comes from its evaluation

  err_ok : {P : Type 0} (f : F) (m : M) → ◌≡◌ {A = Result M F} (Err f) (Ok m) → P
  err_ok f m e = absurd (true≢false (sym (ap is_ok e)))
    where
      is_ok : Result M F → Bool
      is_ok (Ok x) = true
      is_ok (Err x) = false

  ok_same : (x m : M) → ◌≡◌ {A = Result M F} (Ok x) (Ok m) → x ≡ m
  ok_same x m e = ap or_x e
    where
      or_x : Result M F → M
      or_x (Ok y) = y
      or_x (Err f) = x

  ended_by : (p : Path) (r : Result M (Ending K)) (m : M) → ended {S = S} p r ≡ Ok m → r ≡ Ok m
  ended_by p (Ok x) m e = ap Ok (ok_same x m e)
  ended_by p (Err (Faulted f)) m e = err_ok _ m e
  ended_by p (Err Unnamed) m e = err_ok _ m e

  linked_by : (p : Path) (t : T) (at : Path → Option (Result M F)) (f : Option F) (m : M) → linked w p t at f ≡ Ok m → w.run (λ q. value (at q)) p t ≡ Ok m
  linked_by p t at (Some f) m e = err_ok f m e
  linked_by p t at None m e = ended_by p (w.run (λ q. value (at q)) p t) m e

  loaded_by : (p : Path) (r : Result (Read T) (S × ℕ)) (at : Path → Option (Result M F)) (m : M) → loaded w p r at ≡ Ok m → (t : T) × (w.run (λ q. value (at q)) p t ≡ Ok m)
  loaded_by p (Err e) at m is = err_ok _ m is
  loaded_by p (Ok r) at m is = go (is_on_cycle w p) is
    where
      go : (b : Bool) → ◌≡◌ {A = Result M F} (elim b [ true ↦ Err (record { kind = LoadCycle; path = p; line = cycle_line w p r.loads }) | false ↦ linked w p r.tree at (loads_fault w.globals p at r.loads) ]) (Ok m) → (t : T) × (w.run (λ q. value (at q)) p t ≡ Ok m)
      go true e = err_ok _ m e
      go false e = (r.tree, linked_by p r.tree at (loads_fault w.globals p at r.loads) m e)

  value_ok : (r : Result M F) (m : M) → value (Some r) ≡ Some m → r ≡ Ok m
  value_ok (Ok x) m e = ap Ok (some_same x m e)
    where
      some_same : (x m : M) → ◌≡◌ {A = Option M} (Some x) (Some m) → x ≡ m
      some_same x m e = ap or_x e
        where
          or_x : Option M → M
          or_x None = x
          or_x (Some y) = y
  value_ok (Err f) m e = some_none m e

  -- what a module without a fault made
  made : (p : Path) (m : M) → is_module w p ≡ true → known p ≡ Some m → AreCoherent s.id s.owner (in_known w s (handed p)) → AreFresh s.id s.owner p (in_known w s (handed p)) → IsMade s.id s.owner s.serial p (in_known w s (handed p)) (λ d. s.has m d ≡ true)
  made p m named e coherent fresh =
      let ok : module_of w p ≡ Ok m = value_ok (module_of w p) m (sym (known_is p named) ∙ e) in
      let run = loaded_by p (file w p) (lower w (h p) (module_of w)) m (sym (by_loads w p) ∙ ok) in
      subst (IfMade w s p (in_known w s (handed p))) run.1 (runs (handed p) p run.0 coherent fresh)

  keeps : (p : Path) → is_module w p ≡ true → AreCoherent s.id s.owner (given g p) → AreFresh s.id s.owner p (given g p) → IsKept g p
  keeps p named coherent fresh = record {
    together = λ a b i j e. together a b i j e;
    theirs = λ d i. let m = module_in (known p) d i in theirs d m;
  }
    where
      coherent' : AreCoherent s.id s.owner (in_known w s (handed p))
      coherent' a b i j e = coherent a b (to_given p a named i) (to_given p b named j) e

      fresh' : AreFresh s.id s.owner p (in_known w s (handed p))
      fresh' a i e = fresh a (to_given p a named i) e

      theirs : (d : D) → ((m : M) × (known p ≡ Some m) × (s.has m d ≡ true)) → given g p d ⊎ (s.owner (s.id d) ≡ p)
      theirs d (m, e, i) = elim ((made p m named e coherent' fresh').theirs d i) [
        | inl older ↦ inl (to_given p d named older)
        | inr own ↦ inr own.0
      ]

      both : (a b : D) (m : M) → known p ≡ Some m → given g p a ⊎ (s.has m a ≡ true) → given g p b ⊎ (s.has m b ≡ true) → s.id a ≡ s.id b → a ≡ b
      both a b m e (inl i) (inl j) same = (made p m named e coherent' fresh').together a b (inl (from_given p a i)) (inl (from_given p b j)) same
      both a b m e (inl i) (inr j) same = (made p m named e coherent' fresh').together a b (inl (from_given p a i)) (inr j) same
      both a b m e (inr i) (inl j) same = (made p m named e coherent' fresh').together a b (inr i) (inl (from_given p b j)) same
      both a b m e (inr i) (inr j) same = (made p m named e coherent' fresh').together a b (inr i) (inr j) same

      by_value : (o : Option M) → known p ≡ o → (a b : D) → given g p a ⊎ has o a → given g p b ⊎ has o b → s.id a ≡ s.id b → a ≡ b
      by_value None e a b (inl i) (inl j) same = coherent a b i j same
      by_value None e a b (inr never) j same = absurd never
      by_value None e a b (inl i) (inr never) same = absurd never
      by_value (Some m) e a b i j same = both a b m e i j same

      together : (a b : D) → given g p a ⊎ has (known p) a → given g p b ⊎ has (known p) b → s.id a ≡ s.id b → a ≡ b
      together a b i j same = by_value (known p) refl a b i j same

  -- what is no module's path has no module
  bare : (p : Path) → is_module w p ≡ false → (d : D) → has (known p) d → ⊥
  bare p e d i = subst (λ o. has o d) (ap (λ b. value (elim b [ true ↦ Some (module_of w p) | false ↦ None ])) e) i

  each : EachKeeps g
  each = record {
    names = λ t u a b e. e;
    base_coherent = λ a b i. absurd i;
    base_apart = λ t n a i. absurd i;
    cyclic = λ t c. absurd (no_cycle t c);
    others = λ t apart. elim (cases_of (is_module w t)) [
      | inl named ↦ inl (named, keeps t named)
      | inr not ↦ inr (bare t not)
    ];
  }

  all : AllCoherent g
  all = all_together g each bytes_eq bytes_eq-Decides w.modules (λ t d c. (deps_lower t d c).0)

  somewhere : (d : D) → in_known w s known d → (g.base d) ⊎ ((t : Path) × has (known t) d)
  somewhere d (q, m, e, i) = inr (q, subst (λ o. has o d) (sym e) i)

  pub modules_together : AreTogether w s
  modules_together = record {
    coherent = λ a b i j e. all.coherent a b (somewhere a i) (somewhere b j) e;
    owned = λ d i. owned d i;
  }
    where
      owned : (d : D) → in_known w s known d → is_module w (s.owner (s.id d)) ≡ true
      owned d (q, m, e, i) = elim (all.owned q d (subst (λ o. has o d) (sym e) i)) [
        | inl never ↦ absurd never
        | inr o ↦ subst (λ p. is_module w p ≡ true) (sym o.2) o.1
      ]
