-- What is known of a module that is done and stands below a height.
use Rattle.std.proofs.Common.{◌≡◌, ℕ, zero, suc, ◌<◌, ◌≤◌, false, List, [], ◌∷◌, length, get_or, Option, Some, None, sym, ap, ◌∙◌, arith, refl, lt-ltb, ltb-true}
use Rattle.std.specs.Prelude.{nat_lt, if◌then◌else◌, MatchOption}
use Rattle.std.specs.Option.{option_copied, option_flatten}
use Rattle.std.specs.Borrow.{Bor}
use Rattle.std.proofs.lemmas.List.{get_or_default}
use Rattle.edges.proofs.Tests.{isnt}
use Rattle.loading.specs.Loads.{Path, path_at}
use Rattle.load_graph.specs.Paths.{ArePaths, IsAt, listed}
use Rattle.load_graph.proofs.Finding.{entry_at, no_entry}
use Rattle.modules.specs.Tables.{Table, module_at, lower_of}

module _ {R : Type 0} where
  length-lower : (hs : List ℕ) (h : ℕ) (ds : List (Option R)) → length hs ≡ length ds → length (lower_of hs h ds) ≡ length hs
  length-lower [] h ds e = refl
  length-lower (x ∷ hs) h [] e = absurd (omega (arith, e))
  length-lower (x ∷ hs) h (d ∷ ds) e = let r = length-lower hs h ds (omega (arith, e)) in omega (arith, r)

  lower_at : (hs : List ℕ) (h : ℕ) (ds : List (Option R)) (n : ℕ) → n < length hs → n < length ds → get_or (lower_of hs h ds) n None ≡ (if nat_lt (get_or hs n 0) h then get_or ds n None else None)
  lower_at [] h ds n low low' = absurd (omega (arith, low))
  lower_at (x ∷ hs) h [] n low low' = absurd (omega (arith, low'))
  lower_at (x ∷ hs) h (d ∷ ds) zero low low' = refl
  lower_at (x ∷ hs) h (d ∷ ds) (suc n) low low' = lower_at hs h ds n (omega (arith, low)) (omega (arith, low'))

  pub at_number : (ps : List Path) (hs : List ℕ) (h : ℕ) (ds : List (Option R)) (n : ℕ) → ArePaths ps → length hs ≡ length ps → length ds ≡ length ps → n < length ps
      → module_at (record { paths = ps; known = lower_of hs h ds }) (path_at ps n) ≡ (if nat_lt (get_or hs n 0) h then get_or ds n None else None)
  at_number ps hs h ds n are size size' low =
      let e = length-lower hs h ds (size ∙ sym size') in
      ap option_flatten (entry_at ps (lower_of hs h ds) n None are.distinct low (omega (arith, e, size, low))) ∙ lower_at hs h ds n (omega (arith, size, low)) (omega (arith, size', low))

  pub not_there : (t : Table R) (q : Path) → listed t.paths q ≡ false → module_at t q ≡ None
  not_there t q none = ap option_flatten (no_entry t.paths t.known q none)

  -- ---- what is read of a table

  read_as : (r : Option (Bor R)) (o x : Option R) → option_copied r ≡ o → x ≡ o → MatchOption r (x ≡ None) (λ b. x ≡ Some b.now)
  read_as None o x e f = f ∙ sym e
  read_as (Some b) o x e f = f ∙ sym e

  module _ (ps : List Path) (hs : List ℕ) (h : ℕ) (ds : List (Option R)) (t : Table R) (is : ◌≡◌ {A = Table R} (record { paths = ps; known = lower_of hs h ds }) t) where
    module _ (are : ArePaths ps) (size : (length hs ≡ length ps) × (length ds ≡ length ps)) (q : Path) (n k : ℕ) (at : IsAt ps q n) (same : k ≡ n) where
      found : module_at t q ≡ (if nat_lt (get_or hs k 0) h then get_or ds k None else None)
      found =
          ap (λ x. module_at x q) (sym is)
          ∙ ap (module_at (record { paths = ps; known = lower_of hs h ds })) (sym at.1)
          ∙ at_number ps hs h ds n are size.0 size.1 at.0
          ∙ ap (λ x. if nat_lt (get_or hs x 0) h then get_or ds x None else None) (sym same)

      pub found_lower : (d : Option R) (r : Option (Bor R)) → get_or hs k 0 < h → d ≡ get_or ds k d → option_copied r ≡ d → MatchOption r (module_at t q ≡ None) (λ b. module_at t q ≡ Some b.now)
      found_lower d r low read copied =
          let inside : k < length ds = let a = at.0 in let b = size.1 in omega (arith, a, b, same) in
          read_as r d (module_at t q) copied (found ∙ ap (λ b. if b then get_or ds k None else None) (lt-ltb (get_or hs k 0) h low) ∙ sym (read ∙ get_or_default ds k d None inside))

      pub found_higher : h ≤ get_or hs k 0 → module_at t q ≡ None
      found_higher high = found ∙ ap (λ b. if b then get_or ds k None else None) (isnt (nat_lt (get_or hs k 0) h) (λ e. let l = ltb-true (get_or hs k 0) h e in absurd (omega (arith, l, high))))

    pub found_none : (q : Path) → listed ps q ≡ false → module_at t q ≡ None
    found_none q none = ap (λ x. module_at x q) (sym is) ∙ not_there (record { paths = ps; known = lower_of hs h ds }) q none
