-- Paths of outputs that are put in a set.
use Rattle.std.proofs.Common.{◌≡◌, ◌∙◌, ◌<◌, ◌+◌, ◌||◌, ℕ, Bool, true, false, List, [], ◌∷◌, length, take, get_or, ap, sym, refl, cond}
use Rattle.std.proofs.lemmas.Cmp.{nat_list_eq_equiv}
use Rattle.std.proofs.lemmas.List.{take_more}
use Rattle.std.proofs.lemmas.List.Folds.{list_any-append}
use Rattle.std.specs.BTreeMap.{is_at}
use Rattle.std.specs.BTreeSet.{BTreeSet, Updates, contains}
use Rattle.std.specs.Borrow.{Bor}
use Rattle.std.specs.Cmp.Lexicographic.{texts_ties}
use Rattle.std.specs.List.{list_any}
use Rattle.std.specs.Str.{bytes_eq}
use Rattle.actions.specs.declared.action.Action.{Action}
use Rattle.depsets.specs.declared.element.FileRef.{FileRef}
use Rattle.targets.specs.Steps.{makes}
use Rattle.analysis.specs.Made.{path_cmp, AreMade, HasMore}

abbrev Paths : Type 0
Paths = BTreeSet (Bor (List ℕ))

at_path : (k q : Bor (List ℕ)) → is_at (path_cmp k) q ≡ bytes_eq q.now k.now
at_path k q = sym (texts_ties k.now q.now) ∙ nat_list_eq_equiv.symm k.now q.now

or_false : (a : Bool) → a ≡ (a || false)
or_false true = refl
or_false false = refl

either : (s a b : Bool) → cond s true (a || b) ≡ (a || (b || (s || false)))
either true true b = refl
either true false true = refl
either true false false = refl
either false true b = refl
either false false true = refl
either false false false = refl

assoc : (a b c : Bool) → ((a || b) || c) ≡ (a || (b || c))
assoc true b c = refl
assoc false b c = refl

pub more_none : (olds : Paths) → HasMore [] olds olds
more_none olds = λ q. or_false (contains path_cmp olds q)

-- a turn of the loop over files
pub more_step : (fs : List FileRef) (i : ℕ) (d : FileRef) (olds mid news : Paths) (k : Bor (List ℕ)) → i < length fs → k.now ≡ (get_or fs i d).path
    → HasMore (take i fs) olds mid → Updates path_cmp mid news k true → HasMore (take (i + 1) fs) olds news
more_step fs i d olds mid news k lt is h more = λ q.
    let x = get_or fs i d in
    let has = λ (f : FileRef). bytes_eq q.now f.path in
    more.0 q
    ∙ (λ j. cond ((at_path k q ∙ ap (bytes_eq q.now) is) j) true (h q j))
    ∙ either (bytes_eq q.now x.path) (contains path_cmp olds q) (list_any has (take i fs))
    ∙ ap (λ b. contains path_cmp olds q || b) (sym (ap (list_any has) (take_more fs i d lt) ∙ list_any-append has (take i fs) (x ∷ [])))

pub made_none : (made : Paths) → made.keys ≡ [] → AreMade [] made
made_none made none = λ q. ap (list_any (is_at (path_cmp q))) none

-- a turn of the loop over actions
pub made_step : (actions : List Action) (i : ℕ) (d : Action) (olds news : Paths) → i < length actions → AreMade (take i actions) olds
    → HasMore (get_or actions i d).outputs olds news → AreMade (take (i + 1) actions) news
made_step actions i d olds news lt h more = λ q.
    let x = get_or actions i d in
    more q
    ∙ (λ j. h q j || or_false (makes q.now x) j)
    ∙ sym (ap (list_any (makes q.now)) (take_more actions i d lt) ∙ list_any-append (makes q.now) (take i actions) (x ∷ []))
