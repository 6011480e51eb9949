-- The text of an input, pair by pair.
use Rattle.std.proofs.Common.{◌≡◌, ◌∙◌, ◌≤◌, ◌++◌, ℕ, Bool, true, false, List, [], ◌∷◌, length, nat_lt, refl, ap, arith, sym}
use Rattle.std.specs.Prelude.{IsUtf8, fold, if◌then◌else◌}
use Rattle.std.proofs.lemmas.Bool.{lt-ltb}
use Rattle.json.specs.Lex.{tokens}
use Rattle.json.specs.Print.{ArePrintable, ends, print, print_from, separator}
use Rattle.json.specs.Token.{Token, begin_array, end_array}
use Rattle.json.proofs.Printed.Tokens.{print_from-append, print_from_push, tokens-print}
use Rattle.request.specs.Input.{Spells, input_limit}
use Rattle.request.specs.InputTokens.{input_tokens, pair_before, pairs_before}
use Rattle.request.proofs.InputLemmas.{read-tokens, spelt-once, tokens-read}
use Rattle.request.proofs.TokenLemmas.{pairs_before-push}
use Rattle.workspace.specs.Workspaces.{IsWorkspace, Pair}
use Rattle.packing.specs.Inputs.{begun_text, comma, input_text, pair_text}

pairs_before-append : (ps : List Pair) (ts : List Token) → pairs_before ps ts ≡ pairs_before ps [] ++ ts
pairs_before-append [] ts = refl
pairs_before-append (p ∷ ps) ts = ap (pair_before p) (pairs_before-append ps ts)

-- behind a pair, a value has ended
behind_pairs : (ps : List Pair) → fold (λ _ u. ends u) true (pairs_before ps []) ≡ true
behind_pairs [] = refl
behind_pairs (p ∷ ps) = behind_pairs ps

pub begun-nil : begun_text [] ≡ 91 ∷ []
unfolding print_from
begun-nil = refl

-- behind the bracket, and behind a pair
first_pair : (p : Pair) → print_from false (pair_before p []) ≡ comma (begun_text []) ++ pair_text p
unfolding print_from
first_pair p = refl

next_pair : (q : Pair) (ps : List Pair) (p : Pair) → print_from true (pair_before p []) ≡ comma (begun_text (q ∷ ps)) ++ pair_text p
unfolding print_from
next_pair q ps p =
    let more : nat_lt 1 (length (begun_text (q ∷ ps))) ≡ true = lt-ltb 1 (length (begun_text (q ∷ ps))) (omega arith) in
    sym (ap (λ b. (if b then 44 ∷ [] else []) ++ pair_text p) more)

later_pair : (ps : List Pair) (p : Pair)
    → print_from (fold (λ _ u. ends u) false (begin_array ∷ pairs_before ps [])) (pair_before p []) ≡ comma (begun_text ps) ++ pair_text p
later_pair [] p = first_pair p
later_pair (q ∷ ps) p = ap (λ b. print_from b (pair_before p [])) (behind_pairs ps) ∙ next_pair q ps p

pub begun-push : (ps : List Pair) (p : Pair) → begun_text (ps ++ p ∷ []) ≡ begun_text ps ++ (comma (begun_text ps) ++ pair_text p)
begun-push ps p =
    ap (λ ts. print (begin_array ∷ ts)) (sym (pairs_before-push ps p []) ∙ pairs_before-append ps (pair_before p []))
    ∙ print_from-append false (begin_array ∷ pairs_before ps []) (pair_before p [])
    ∙ ap (λ l. begun_text ps ++ l) (later_pair ps p)

closing : (b : Bool) → separator b end_array ++ 93 ∷ [] ≡ 93 ∷ []
closing true = refl
closing false = refl

-- the last bracket
pub begun-closed : (ps : List Pair) → input_text ps ≡ begun_text ps ++ 93 ∷ []
begun-closed ps =
    ap (λ ts. print (begin_array ∷ ts)) (pairs_before-append ps (end_array ∷ []))
    ∙ print_from_push false (begin_array ∷ pairs_before ps []) end_array
    ∙ ap (λ l. begun_text ps ++ l) (closing (fold (λ _ u. ends u) false (begin_array ∷ pairs_before ps [])))

-- ---- what it spells

printable_pairs : (ps : List Pair) (ts : List Token) → ArePrintable ts → ArePrintable (pairs_before ps ts)
unfolding ArePrintable
printable_pairs [] ts h = h
printable_pairs (p ∷ ps) ts h = (tt, (tt, (tt, (tt, printable_pairs ps ts h))))

printable : (ps : List Pair) → ArePrintable (input_tokens ps)
unfolding ArePrintable
printable ps = (tt, printable_pairs ps (end_array ∷ []) (tt, tt))

pub text_tokens : (ps : List Pair) → tokens (input_text ps) ≡ input_tokens ps
text_tokens ps = tokens-print (input_tokens ps) (printable ps)

pub text_spells : (ps : List Pair) → IsWorkspace ps → IsUtf8 (input_text ps) → length (input_text ps) ≤ input_limit → Spells (input_text ps) ps
text_spells ps legal utf8 limit =
    let v = tokens-read (input_text ps) ps (text_tokens ps) in record {
      limit = limit;
      utf8 = utf8;
      value = v.0;
      read = v.1;
      pairs_of = v.2;
      workspace = legal;
    }

-- an input spells one workspace
pub spells_once : (input : List ℕ) (ps qs : List Pair) → Spells input ps → Spells input qs → ps ≡ qs
spells_once input ps qs a b = spelt-once input ps qs b.value (read-tokens input a.value ps a.read a.pairs_of) b.read b.pairs_of
