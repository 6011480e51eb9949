-- The modules that load statements name.
use Rattle.std.proofs.Common.{◌≡◌, ℕ, ◌+◌, ◌<◌, inl, inr, Bool, true, false, List, [], ◌∷◌, ◌++◌, length, map, take, get_or, Option, Some, None, sym, ap, ◌∙◌, subst, arith, refl, true≢false, eqb-true, nat_eq}
use Rattle.std.specs.Prelude.{if◌then◌else◌, MatchOption}
use Rattle.std.specs.Option.{option_to_list}
use Rattle.std.proofs.lemmas.List.{map_more, map-append}
use Rattle.std.specs.List.{cons_option}
use Rattle.edges.specs.Rows.{has}
use Rattle.edges.proofs.Tests.{either}
use Rattle.edges.proofs.Lists.{has-append, has-one}
use Rattle.loading.specs.Loads.{Path, Load, module_path, of_module, path_at}
use Rattle.loading.specs.Modules.{targets}
use Rattle.load_graph.specs.Paths.{ArePaths, IsAt, listed, AreNumbers, entry, is_number, leads_back}
use Rattle.load_graph.proofs.Finding.{entry_at, no_entry, listed_at}

-- ---- rows

targets-push : (ls : List Load) (l : Load) → targets (ls ++ l ∷ []) ≡ targets ls ++ cons_option l.target []
targets-push [] l = refl
targets-push (x ∷ ls) l = behind x.target (targets (ls ++ l ∷ [])) (targets ls) (cons_option l.target []) (targets-push ls l)
  where
    behind : (t : Option Path) (xs ys zs : List Path) → xs ≡ ys ++ zs → cons_option t xs ≡ cons_option t ys ++ zs
    behind None xs ys zs e = e
    behind (Some q) xs ys zs e = ap (λ l. q ∷ l) e

-- a module that is named by a statement
abbrev pub IsLoaded : List Path → Option Path → Option ℕ → Type 0
IsLoaded paths target r = MatchOption r (target ≡ None) (λ n. (n < length paths) × (target ≡ Some (path_at paths n)))

named_one : (paths : List Path) (target : Option Path) (r : Option ℕ) → IsLoaded paths target r → AreNumbers paths (cons_option target []) (option_to_list r)
named_one paths target None is = record {
  inside = λ d h. absurd (true≢false (sym h));
  named_is = sym (ap (λ t. cons_option t []) is);
}
named_one paths target (Some n) is = record {
  inside = λ d h. let e = eqb-true d n (sym (has-one n d) ∙ h) in let low = is.0 in omega (arith, e, low);
  named_is = sym (ap (λ t. cons_option t []) is.1);
}

joined : (paths named more : List Path) (row others : List ℕ) → AreNumbers paths named row → AreNumbers paths more others → AreNumbers paths (named ++ more) (row ++ others)
joined paths named more row others a b = record {
  inside = λ d h. elim (either (has row d) (has others d) (sym (has-append row others d) ∙ h)) [
    | inl here ↦ a.inside d here
    | inr there ↦ b.inside d there
  ];
  named_is = map-append (path_at paths) row others ∙ ap (λ xs. xs ++ map (path_at paths) others) a.named_is ∙ ap (λ xs. named ++ xs) b.named_is;
}

pub no_numbers : (paths : List Path) → AreNumbers paths [] []
no_numbers paths = record { inside = λ d h. absurd (true≢false (sym h)); named_is = refl }

abbrev pub named : List Path → List Load → List Path
named paths ls = targets (map (of_module (listed paths)) ls)

-- a turn over the statements
pub numbers_more : (paths : List Path) (ls : List Load) (i : ℕ) (l : Load) (row new : List ℕ) (r : Option ℕ) → i < length ls → l ≡ get_or ls i l → AreNumbers paths (named paths (take i ls)) row
    → IsLoaded paths (module_path (listed paths) l.target) r → new ≡ row ++ option_to_list r → AreNumbers paths (named paths (take (i + 1) ls)) new
numbers_more paths ls i l row new r low is are one grown =
    let step : named paths (take (i + 1) ls) ≡ named paths (take i ls) ++ cons_option (module_path (listed paths) l.target) [] =
    ap targets (map_more (of_module (listed paths)) ls i l low) ∙ targets-push (map (of_module (listed paths)) (take i ls)) (of_module (listed paths) (get_or ls i l))
    ∙ ap (λ (x : Load). named paths (take i ls) ++ cons_option (module_path (listed paths) x.target) []) (sym is) in
    subst (λ xs. AreNumbers paths xs new) (sym step)
    (subst (AreNumbers paths (named paths (take i ls) ++ cons_option (module_path (listed paths) l.target) [])) (sym grown)
    (joined paths (named paths (take i ls)) (cons_option (module_path (listed paths) l.target) []) row (option_to_list r) are (named_one paths (module_path (listed paths) l.target) r one)))

-- ---- statements that lead back

some_same : (a b : Path) → ◌≡◌ {A = Option Path} (Some a) (Some b) → a ≡ b
some_same a b e = ap or_a e
  where
    or_a : Option Path → Path
    or_a None = a
    or_a (Some x) = x

some_none : {P : Type 0} (a : Path) → ◌≡◌ {A = Option Path} (Some a) None → P
some_none a e = absurd (true≢false (ap is_there e))
  where
    is_there : Option Path → Bool
    is_there None = false
    is_there (Some x) = true

pub loaded_by : (paths : List Path) (t : Option Path) (q : Path) (r : Option ℕ) → t ≡ Some q → MatchOption r (listed paths q ≡ false) (IsAt paths q) → IsLoaded paths (module_path (listed paths) t) r
loaded_by paths t q None e none = ap (module_path (listed paths)) e ∙ ap (λ b. if b then Some q else None) none
loaded_by paths t q (Some n) e is = (
  is.0,
  ap (module_path (listed paths)) e ∙ ap (λ b. if b then Some q else None) (subst (λ x. listed paths x ≡ true) is.1 (listed_at paths n is.0)) ∙ ap Some (sym is.1),
)

pub leads_none : (paths : List Path) (numbers : List ℕ) (own : ℕ) (t : Option Path) → module_path (listed paths) t ≡ None → leads_back paths numbers own t ≡ false
leads_none paths numbers own None e = refl
leads_none paths numbers own (Some q) e = go (listed paths q) refl e
  where
    go : (b : Bool) → listed paths q ≡ b → ◌≡◌ {A = Option Path} (if b then Some q else None) None → is_number own (entry paths numbers q) ≡ false
    go true e is = some_none q is
    go false e is = ap (is_number own) (no_entry paths numbers q e)

pub leads_some : (paths : List Path) (numbers : List ℕ) (own : ℕ) (t : Option Path) (n : ℕ) → ArePaths paths → length numbers ≡ length paths → n < length paths → module_path (listed paths) t ≡ Some (path_at paths n)
    → leads_back paths numbers own t ≡ nat_eq (get_or numbers n 0) own
leads_some paths numbers own None n are size low e = some_none (path_at paths n) (sym e)
leads_some paths numbers own (Some q) n are size low e = go (listed paths q) e
  where
    go : (b : Bool) → ◌≡◌ {A = Option Path} (if b then Some q else None) (Some (path_at paths n)) → is_number own (entry paths numbers q) ≡ nat_eq (get_or numbers n 0) own
    go true is =
        ap (λ x. is_number own (entry paths numbers x)) (some_same q (path_at paths n) is)
        ∙ ap (is_number own) (entry_at paths numbers n 0 are.distinct low (omega (arith, size, low)))
    go false is = some_none (path_at paths n) (sym is)
