-- In distinct names each name has one place, so no name is that of two things.
use Rattle.std.proofs.Common.{◌≡◌, ℕ, zero, suc, true, not, List, [], ◌∷◌, Option, Some, slice_get, bytes_eq, refl, sym, ap, subst, ◌∙◌}
use Rattle.std.proofs.lemmas.Map.Keys.{any_passes_from_place}
use Rattle.std.proofs.lemmas.Option.{same_Some}
use Rattle.std.proofs.lemmas.Slice.Eq.{bytes_eq-Decides}
use Rattle.program_tree.specs.Names.{among, distinct}
use Rattle.values.specs.View.{FrozenTree}
use Rattle.loading.specs.Loads.{Path, Name}
use Rattle.targets.specs.declared.declarations.Declarations.{Declarations}
use Rattle.evaluation.specs.Runs.{naming_of}
use Rattle.endings.specs.Called.{IsProvider, IsRule, provider_value, rule_value, IsFirstName, NamesAreOwn}
use Rattle.endings.proofs.GivenNames.{both, one_number}
use Rattle.endings.proofs.Numbers.{provider_number, rule_number, provider_taken, takes_provider, rule_taken, takes_rule, provider_is_first, rule_is_first}

-- a name does not stand among those that follow it
not_later : (x y : Name) (xs : List Name) (k : ℕ) → not (among y xs) ≡ true → y ≡ x → slice_get xs k ≡ Some x → ⊥
not_later x y xs k out same e =
    let there : among y xs ≡ true =
    any_passes_from_place (bytes_eq y) xs k x e ((bytes_eq-Decides y x).1 same) in
    let no_more : not true ≡ true = subst (λ b. not b ≡ true) there out in
    cc

pub one_place : (xs : List Name) (x : Name) (j k : ℕ) → distinct xs ≡ true → slice_get xs j ≡ Some x
    → slice_get xs k ≡ Some x → j ≡ k
one_place [] x j k d a b = absurd cc
one_place (y ∷ ys) x zero zero d a b = refl
one_place (y ∷ ys) x zero (suc k) d a b =
    absurd (not_later x y ys k (both (not (among y ys)) (distinct ys) d).0 (same_Some y x a) b)
one_place (y ∷ ys) x (suc j) zero d a b =
    absurd (not_later x y ys j (both (not (among y ys)) (distinct ys) d).0 (same_Some y x b) a)
one_place (y ∷ ys) x (suc j) (suc k) d a b =
    ap suc (one_place ys x j k (both (not (among y ys)) (distinct ys) d).1 a b)

-- no global is both a provider and a rule
apart_at : (n i j : ℕ) (xs : List Name) (ts : List (Option FrozenTree)) (x y : Name)
    → (f : IsFirstName provider_value (IsProvider n i) xs ts x) (g : IsFirstName rule_value (IsRule n j) xs ts y)
    → f.place ≡ g.place → ⊥
apart_at n i j xs ts x y f g same =
    let one : Some (Some (provider_value f.thing)) ≡ Some (Some (rule_value g.thing)) =
    sym f.here ∙ ap (slice_get ts) same ∙ g.here in
    cc

module _ (path : Path) (n : ℕ) (names : List Name) (globals : List (Option FrozenTree)) (made : Declarations) where
  pub names_are_own : distinct names ≡ true → NamesAreOwn (naming_of path n names globals made)
  names_are_own d = record {
    providers = λ i j x a b.
        let f = provider_is_first path n names globals made i x a in
        let g = provider_is_first path n names globals made j x b in
        one_number provider_value (IsProvider n) (provider_number n) (provider_taken n) (takes_provider n)
        i j names globals x x f g (one_place names x f.place g.place d f.name g.name);
    rules = λ i j x a b.
        let f = rule_is_first path n names globals made i x a in
        let g = rule_is_first path n names globals made j x b in
        one_number rule_value (IsRule n) (rule_number n) (rule_taken n) (takes_rule n)
        i j names globals x x f g (one_place names x f.place g.place d f.name g.name);
    apart = λ i j x a b.
        let f = provider_is_first path n names globals made i x a in
        let g = rule_is_first path n names globals made j x b in
        apart_at n i j names globals x x f g (one_place names x f.place g.place d f.name g.name);
  }
