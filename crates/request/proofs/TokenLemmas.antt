-- The tokens of an array of pairs, as they are taken one pair after another.
use Rattle.std.proofs.Common.{◌≡◌, ◌∙◌, ℕ, true, false, List, [], ◌∷◌, ◌++◌, Some, None, drop, refl, ap, ap₂, sym}
use Rattle.std.proofs.lemmas.Bool.{and_parts, both_ways}
use Rattle.std.proofs.lemmas.List.Folds.{list_all-append}
use Rattle.std.specs.List.{list_all}
use Rattle.json.specs.Token.{Token, begin_array, end_array}
use Rattle.json.specs.Json.{after_end_array}
use Rattle.request.specs.InputTokens.{BeginsPair, input_tokens, pair_before, pairs_before}
use Rattle.workspace.specs.Workspaces.{Pair, is_file}

-- one pair more is taken
pub pairs_before-push : (ds : List Pair) (p : Pair) (ts : List Token) → pairs_before ds (pair_before p ts) ≡ pairs_before (ds ++ p ∷ []) ts
pairs_before-push [] p ts = refl
pairs_before-push (d ∷ ds) p ts = ap (pair_before d) (pairs_before-push ds p ts)

-- those that were taken are the first
cancel : (ds : List Pair) (ts : List Token) (ps : List Pair) → pairs_before ds ts ≡ pairs_before ps (end_array ∷ [])
    → (qs : List Pair) × (ps ≡ ds ++ qs) × (ts ≡ pairs_before qs (end_array ∷ []))
cancel [] ts ps e = (ps, refl, e)
cancel (d ∷ ds) ts [] e = absurd (cc)
cancel (d ∷ ds) ts (p ∷ ps) e =
    let rest = cancel ds ts ps (ap (drop 4) e) in
    let path : d.0 ≡ p.0 = cc in
    let text : d.1 ≡ p.1 = cc in
    let same : p ≡ d = ap₂ (λ (a b : List ℕ). (a, b)) (sym path) (sym text) in
    (rest.0, ap₂ (λ (q : Pair) (qs : List Pair). q ∷ qs) same rest.1, rest.2)

-- neither a pair nor the end comes next
pub no_pair : (ds : List Pair) (ts : List Token) (ps : List Pair) → begin_array ∷ pairs_before ds ts ≡ input_tokens ps
    → after_end_array ts ≡ None → (BeginsPair ts → ⊥) → ⊥
no_pair ds ts ps e going none = let c = cancel ds ts ps (ap (drop 1) e) in go c.0 c.2
  where
    go : (qs : List Pair) → ts ≡ pairs_before qs (end_array ∷ []) → ⊥
    go [] is = let ended : None ≡ Some [] = sym going ∙ ap after_end_array is in absurd (cc)
    go (q ∷ qs) is = none (q, pairs_before qs (end_array ∷ []), is)

-- a pair that comes next is no file
pub no_file : (ds : List Pair) (p : Pair) (ts : List Token) (ps : List Pair) → begin_array ∷ pairs_before ds (pair_before p ts) ≡ input_tokens ps
    → is_file p ≡ false → list_all is_file ps ≡ true → ⊥
no_file ds p ts ps e illegal legal = let c = cancel ds (pair_before p ts) ps (ap (drop 1) e) in go c.0 c.1 c.2
  where
    go : (qs : List Pair) → ps ≡ ds ++ qs → pair_before p ts ≡ pairs_before qs (end_array ∷ []) → ⊥
    go [] is rest = absurd (cc)
    go (q ∷ qs) is rest =
        let path : p.0 ≡ q.0 = cc in
        let text : p.1 ≡ q.1 = cc in
        let same : q ≡ p = ap₂ (λ (a b : List ℕ). (a, b)) (sym path) (sym text) in
        let all = and_parts (list_all is_file ds) (list_all is_file (q ∷ qs)) (sym (list_all-append is_file ds (q ∷ qs)) ∙ sym (ap (list_all is_file) is) ∙ legal) in
        both_ways (is_file p) illegal (sym (ap is_file same) ∙ (and_parts (is_file q) (list_all is_file qs) all.1).0)

-- something comes behind the end
pub no_end : (ds : List Pair) (t : Token) (ts : List Token) (ps : List Pair) → begin_array ∷ pairs_before ds (end_array ∷ t ∷ ts) ≡ input_tokens ps → ⊥
no_end ds t ts ps e = let c = cancel ds (end_array ∷ t ∷ ts) ps (ap (drop 1) e) in go c.0 c.2
  where
    go : (qs : List Pair) → end_array ∷ t ∷ ts ≡ pairs_before qs (end_array ∷ []) → ⊥
    go [] is = let behind : t ∷ ts ≡ [] = ap (drop 1) is in absurd (cc)
    go (q ∷ qs) is = absurd (cc)
