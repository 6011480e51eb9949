-- An input's tokens and the value that it is as JSON.
use Rattle.std.proofs.Common.{◌≡◌, ◌∙◌, ◌<◌, ◌≤◌, ◌-◌, ℕ, zero, suc, List, [], ◌∷◌, length, Option, Some, None, option_map, option_and_then, refl, ap, ap₂, sym, subst, arith, lit<}
use Rattle.std.specs.Prelude.{⊤}
use Rattle.json.specs.Lex.{tokens}
use Rattle.json.specs.Token.{Token, begin_object, end_object, begin_array, end_array, key, string, number, boolean, null, bad}
use Rattle.json.specs.Json as json
use Rattle.json.specs.Json.{Json, parse_map, after_end_array, items, items_step, members, if_last, value}
use Rattle.json.proofs.Found.{Some_inj, not_found}
use Rattle.json.proofs.Grammar.{closed_array, items_end, items_more, value-begin_array, value_is}
use Rattle.serde_json.specs.Data as tree
use Rattle.serde_json.specs.Data.{Data}
use Rattle.serde_json.specs.Find.{as_str}
use Rattle.serde_json.specs.Read.{of_items, of_json, of_members, number_of, read}
use Rattle.request.specs.Input.{pair_of, pair_with, pairs_after, pairs_of, pairs_of_items}
use Rattle.request.specs.InputTokens.{input_tokens, pair_before, pairs_before}
use Rattle.workspace.specs.Workspaces.{Pair}

-- ---- from tokens to the value

abbrev json_pair : Pair → Json
json_pair p = json.array (json.item (json.string p.0) (json.item (json.string p.1) json.no_items))

abbrev json_pairs : List Pair → json.Items
json_pairs [] = json.no_items
json_pairs (p ∷ ps) = json.item (json_pair p) (json_pairs ps)

abbrev data_pair : Pair → Data
data_pair p = tree.array (tree.item (tree.string p.0) (tree.item (tree.string p.1) tree.no_items))

abbrev data_pairs : List Pair → tree.Items
data_pairs [] = tree.no_items
data_pairs (p ∷ ps) = tree.item (data_pair p) (data_pairs ps)

pair_read : (p : Pair) (ts : List Token) → value 126 (pair_before p ts) ≡ Some (json_pair p, ts)
pair_read p ts =
    let inner = string p.0 ∷ string p.1 ∷ end_array ∷ ts in
    let n = length inner in
    value-begin_array 126 inner (lit< tt)
    ∙ ap (parse_map json.array) (items_more (value 125) n inner (string p.1 ∷ end_array ∷ ts) (json.string p.0) (omega arith) refl (value_is 125 inner)
    ∙ ap (parse_map (json.item (json.string p.0)))
    (items_more (value 125) (n - 1) (string p.1 ∷ end_array ∷ ts) (end_array ∷ ts) (json.string p.1) (omega arith) refl (value_is 125 (string p.1 ∷ end_array ∷ ts))
    ∙ ap (parse_map (json.item (json.string p.1))) (items_end (value 125) (n - 1 - 1) (end_array ∷ ts) ts (omega arith) refl)))

pairs_read : (n : ℕ) (ps : List Pair) → length (pairs_before ps (end_array ∷ [])) ≤ n
    → items (value 126) n (pairs_before ps (end_array ∷ [])) ≡ Some (json_pairs ps, [])
pairs_read n [] le = items_end (value 126) n (end_array ∷ []) [] le refl
pairs_read n (p ∷ ps) le =
    let rest = pairs_before ps (end_array ∷ []) in
    items_more (value 126) n (pair_before p rest) rest (json_pair p) (omega (arith, le)) refl (pair_read p rest)
    ∙ ap (parse_map (json.item (json_pair p))) (pairs_read (n - 1) ps (omega (arith, le)))

of_pairs : (ps : List Pair) → of_items (json_pairs ps) ≡ Some (data_pairs ps)
of_pairs [] = refl
of_pairs (p ∷ ps) = rw (of_pairs ps) refl

pairs_back : (ps : List Pair) → pairs_of_items (data_pairs ps) ≡ Some ps
pairs_back [] = refl
pairs_back (p ∷ ps) = rw (pairs_back ps) refl

-- what is spelt so is read as these pairs
pub tokens-read : (input : List ℕ) (ps : List Pair) → tokens input ≡ input_tokens ps
    → (d : Data) × (read input ≡ Some d) × (pairs_of d ≡ Some ps)
tokens-read input ps is =
    let inner = pairs_before ps (end_array ∷ []) in
    let found : value 127 (tokens input) ≡ Some (json.array (json_pairs ps), [])
    = ap (value 127) is ∙ value-begin_array 127 inner (lit< tt) ∙ ap (parse_map json.array) (pairs_read (length inner) ps (omega arith)) in (
      tree.array (data_pairs ps),
      ap (λ o. option_and_then of_json (option_and_then (λ p. if_last p.0 p.1) o)) found ∙ ap (option_map tree.array) (of_pairs ps),
      pairs_back ps,
    )

-- ---- from the value to tokens

-- some items were read of these tokens, and the rest was left
abbrev ItemsRead : json.Items → List Token → List Token → Type 0
ItemsRead js ts r = (d : ℕ) × (n : ℕ) × (items (value d) n ts ≡ Some (js, r))

-- where an array or a string was read, how the tokens begin
abbrev Spelt : Json → List Token → List Token → Type 0
Spelt json.null ts r = ⊤
Spelt (json.boolean b) ts r = ⊤
Spelt (json.number s) ts r = ⊤
Spelt (json.string s) ts r = ts ≡ string s ∷ r
Spelt (json.array js) ts r = (inner : List Token) × (ts ≡ begin_array ∷ inner) × ItemsRead js inner r
Spelt (json.object ms) ts r = ⊤

abbrev IfSpelt : List Token → Option (Json × List Token) → Type 0
IfSpelt ts None = ⊤
IfSpelt ts (Some x) = Spelt x.0 ts x.1

array_spelt : (d : ℕ) (ts : List Token) (o : Option (json.Items × List Token)) → items (value d) (length ts) ts ≡ o
    → IfSpelt (begin_array ∷ ts) (parse_map json.array o)
array_spelt d ts None e = tt
array_spelt d ts (Some x) e = (ts, refl, (d, length ts, e))

object_spelt : (ts : List Token) (o : Option (json.Members × List Token)) → IfSpelt ts (parse_map json.object o)
object_spelt ts None = tt
object_spelt ts (Some x) = tt

spelt_at : (d : ℕ) (t : Token) (ts : List Token) → IfSpelt (t ∷ ts) (value d (t ∷ ts))
unfolding value
spelt_at zero begin_object ts = tt
spelt_at zero end_object ts = tt
spelt_at zero begin_array ts = tt
spelt_at zero end_array ts = tt
spelt_at zero (key s) ts = tt
spelt_at zero (string s) ts = refl
spelt_at zero (number s) ts = tt
spelt_at zero (boolean b) ts = tt
spelt_at zero null ts = tt
spelt_at zero bad ts = tt
spelt_at (suc d) begin_object ts = object_spelt (begin_object ∷ ts) (members (value d) (length ts) ts)
spelt_at (suc d) end_object ts = tt
spelt_at (suc d) begin_array ts = array_spelt d ts _ refl
spelt_at (suc d) end_array ts = tt
spelt_at (suc d) (key s) ts = tt
spelt_at (suc d) (string s) ts = refl
spelt_at (suc d) (number s) ts = tt
spelt_at (suc d) (boolean b) ts = tt
spelt_at (suc d) null ts = tt
spelt_at (suc d) bad ts = tt

spelt : (d : ℕ) (ts : List Token) (j : Json) (r : List Token) → value d ts ≡ Some (j, r) → Spelt j ts r
spelt d [] j r e = not_found (j, r) (sym (value_is d []) ∙ e)
spelt d (t ∷ ts) j r e = subst (IfSpelt (t ∷ ts)) e (spelt_at d t ts)

-- how items come apart
abbrev ItemsSpelt : json.Items → List Token → List Token → Type 0
ItemsSpelt json.no_items ts r = ts ≡ end_array ∷ r
ItemsSpelt (json.item j js) ts r = (rest : List Token) × Spelt j ts rest × ItemsRead js rest r

one_item : (d n : ℕ) (ts : List Token) (o : Option (Json × List Token)) (js : json.Items) (r : List Token) → value d ts ≡ o
    → option_and_then (λ q. parse_map (json.item q.0) (items (value d) n q.1)) o ≡ Some (js, r) → ItemsSpelt js ts r
one_item d n ts None js r is e = not_found (js, r) e
one_item d n ts (Some q) js r is e = go (items (value d) n q.1) refl e
  where
    go : (m : Option (json.Items × List Token)) → items (value d) n q.1 ≡ m → parse_map (json.item q.0) m ≡ Some (js, r) → ItemsSpelt js ts r
    go None more h = not_found (js, r) h
    go (Some y) more h =
        let both = Some_inj _ _ h in
        subst (λ (x : json.Items × List Token). ItemsSpelt x.0 ts x.1) both (q.1, spelt d ts q.0 q.1 is, (d, n, more))

items_spelt : (js : json.Items) (ts r : List Token) → ItemsRead js ts r → ItemsSpelt js ts r
unfolding items
items_spelt js ts r (d, zero, e) = not_found (js, r) e
items_spelt js ts r (d, suc n, e) = go (after_end_array ts) refl e
  where
    go : (o : Option (List Token)) → after_end_array ts ≡ o → items_step (value d) (items (value d) n) ts o ≡ Some (js, r) → ItemsSpelt js ts r
    go (Some rest) is h = subst (λ (x : json.Items × List Token). ItemsSpelt x.0 ts x.1) (Some_inj _ _ h) (closed_array ts rest is)
    go None is h = one_item d n ts (value d ts) js r refl h

-- what has a pair is an array of two strings
nothing : {A B P : Type 0} (o : Option A) (f : A → Data) (g : Data → Option B) (b : B) → ((a : A) → g (f a) ≡ None)
    → option_and_then g (option_map f o) ≡ Some b → P
nothing None f g b none e = not_found b e
nothing (Some a) f g b none e = not_found b (sym (none a) ∙ e)

text_of : (j : Json) (s : List ℕ) → option_and_then as_str (of_json j) ≡ Some s → j ≡ json.string s
text_of json.null s e = not_found s e
text_of (json.boolean b) s e = not_found s e
text_of (json.number t) s e = nothing (number_of t) tree.number as_str s (λ a. refl) e
text_of (json.string t) s e = ap json.string (Some_inj t s e)
text_of (json.array js) s e = nothing (of_items js) tree.array as_str s (λ a. refl) e
text_of (json.object ms) s e = nothing (of_members ms tree.no_members) tree.object as_str s (λ a. refl) e

pair_is : (j : Json) (p : Pair) → option_and_then pair_of (of_json j) ≡ Some p → j ≡ json_pair p
pair_is json.null p e = not_found p e
pair_is (json.boolean b) p e = not_found p e
pair_is (json.number t) p e = nothing (number_of t) tree.number pair_of p (λ a. refl) e
pair_is (json.string t) p e = not_found p e
pair_is (json.object ms) p e = nothing (of_members ms tree.no_members) tree.object pair_of p (λ a. refl) e
pair_is (json.array json.no_items) p e = not_found p e
pair_is (json.array (json.item a json.no_items)) p e = go (of_json a) e
  where
    go : (o : Option Data) → option_and_then pair_of (option_map tree.array (option_and_then (λ d. Some (tree.item d tree.no_items)) o)) ≡ Some p
        → json.array (json.item a json.no_items) ≡ json_pair p
    go None h = not_found p h
    go (Some d) h = not_found p h
pair_is (json.array (json.item a (json.item b json.no_items))) p e = go (of_json a) refl (of_json b) refl e
  where
    both : Json
    both = json.array (json.item a (json.item b json.no_items))

    texts : (da db : Data) → of_json a ≡ Some da → of_json b ≡ Some db → (s t : Option (List ℕ)) → as_str da ≡ s → as_str db ≡ t
        → option_and_then (λ path. pair_with path t) s ≡ Some p → both ≡ json_pair p
    texts da db isa isb None t es et h = not_found p h
    texts da db isa isb (Some s) None es et h = not_found p h
    texts da db isa isb (Some s) (Some t) es et h =
        ap₂ (λ (x y : Json). json.array (json.item x (json.item y json.no_items)))
        (text_of a s (ap (option_and_then as_str) isa ∙ es)) (text_of b t (ap (option_and_then as_str) isb ∙ et))
        ∙ ap json_pair (Some_inj (s, t) p h)

    go : (oa : Option Data) → of_json a ≡ oa → (ob : Option Data) → of_json b ≡ ob
        → option_and_then pair_of (option_map tree.array (option_and_then (λ d. option_map (tree.item d) (option_and_then (λ c. Some (tree.item c tree.no_items)) ob)) oa)) ≡ Some p
        → both ≡ json_pair p
    go None isa ob isb h = not_found p h
    go (Some da) isa None isb h = not_found p h
    go (Some da) isa (Some db) isb h = texts da db isa isb (as_str da) (as_str db) refl refl h
pair_is (json.array (json.item a (json.item b (json.item c js)))) p e = go (of_json a) (of_json b) (of_json c) (of_items js) e
  where
    go : (oa ob oc : Option Data) (os : Option tree.Items)
        → option_and_then pair_of (option_map tree.array (option_and_then (λ x. option_map (tree.item x) (option_and_then (λ y. option_map (tree.item y) (option_and_then (λ z. option_map (tree.item z) os) oc)) ob)) oa)) ≡ Some p
        → json.array (json.item a (json.item b (json.item c js))) ≡ json_pair p
    go None ob oc os h = not_found p h
    go (Some x) None oc os h = not_found p h
    go (Some x) (Some y) None os h = not_found p h
    go (Some x) (Some y) (Some z) None h = not_found p h
    go (Some x) (Some y) (Some z) (Some ds) h = not_found p h

pair_spelt : (p : Pair) (ts r : List Token) → Spelt (json_pair p) ts r → ts ≡ pair_before p r
pair_spelt p ts r h =
    let first = items_spelt _ h.0 r h.2 in
    let second = items_spelt _ first.0 r first.2 in
    let end : second.0 ≡ end_array ∷ r = items_spelt json.no_items second.0 r second.2 in
    h.1 ∙ ap (λ us. begin_array ∷ us) (first.1 ∙ ap (λ us. string p.0 ∷ us) (second.1 ∙ ap (λ us. string p.1 ∷ us) end))

pairs_spelt : (js : json.Items) (ts r : List Token) (ps : List Pair) → ItemsRead js ts r → option_and_then pairs_of_items (of_items js) ≡ Some ps
    → ts ≡ pairs_before ps (end_array ∷ r)
pairs_spelt json.no_items ts r ps h e = items_spelt json.no_items ts r h ∙ ap (λ qs. pairs_before qs (end_array ∷ r)) (Some_inj [] ps e)
pairs_spelt (json.item j js) ts r ps h e =
    let parts = items_spelt (json.item j js) ts r h in
    go parts.0 parts.1 (λ qs k. pairs_spelt js parts.0 r qs parts.2 k) (of_json j) refl (of_items js) refl e
  where
    found : (rest : List Token) → Spelt j ts rest → ((qs : List Pair) → option_and_then pairs_of_items (of_items js) ≡ Some qs → rest ≡ pairs_before qs (end_array ∷ r))
        → (d : Data) (ds : tree.Items) → of_json j ≡ Some d → of_items js ≡ Some ds → (o : Option Pair) (os : Option (List Pair)) → pair_of d ≡ o → pairs_of_items ds ≡ os
        → pairs_after o os ≡ Some ps → ts ≡ pairs_before ps (end_array ∷ r)
    found rest first later d ds isd iss None os eo es k = not_found ps k
    found rest first later d ds isd iss (Some p) None eo es k = not_found ps k
    found rest first later d ds isd iss (Some p) (Some qs) eo es k =
        let is : j ≡ json_pair p = pair_is j p (ap (option_and_then pair_of) isd ∙ eo) in
        pair_spelt p ts rest (subst (λ (x : Json). Spelt x ts rest) is first)
        ∙ ap (pair_before p) (later qs (ap (option_and_then pairs_of_items) iss ∙ es))
        ∙ ap (λ (x : List Pair). pairs_before x (end_array ∷ r)) (Some_inj (p ∷ qs) ps k)

    go : (rest : List Token) → Spelt j ts rest → ((qs : List Pair) → option_and_then pairs_of_items (of_items js) ≡ Some qs → rest ≡ pairs_before qs (end_array ∷ r))
        → (o : Option Data) → of_json j ≡ o → (os : Option tree.Items) → of_items js ≡ os
        → option_and_then pairs_of_items (option_and_then (λ d. option_map (tree.item d) os) o) ≡ Some ps → ts ≡ pairs_before ps (end_array ∷ r)
    go rest first later None isd os iss k = not_found ps k
    go rest first later (Some d) isd None iss k = not_found ps k
    go rest first later (Some d) isd (Some ds) iss k = found rest first later d ds isd iss (pair_of d) (pairs_of_items ds) refl refl k

inside : (o : Option tree.Items) → option_and_then pairs_of (option_map tree.array o) ≡ option_and_then pairs_of_items o
inside None = refl
inside (Some ds) = refl

whole : (j : Json) (ts : List Token) (ps : List Pair) → value 127 ts ≡ Some (j, []) → option_and_then pairs_of (of_json j) ≡ Some ps → ts ≡ input_tokens ps
whole json.null ts ps is e = not_found ps e
whole (json.boolean b) ts ps is e = not_found ps e
whole (json.number t) ts ps is e = nothing (number_of t) tree.number pairs_of ps (λ a. refl) e
whole (json.string t) ts ps is e = not_found ps e
whole (json.object ms) ts ps is e = nothing (of_members ms tree.no_members) tree.object pairs_of ps (λ a. refl) e
whole (json.array js) ts ps is e =
    let parts = spelt 127 ts (json.array js) [] is in
    parts.1 ∙ ap (λ us. begin_array ∷ us) (pairs_spelt js parts.0 [] ps parts.2 (sym (inside (of_items js)) ∙ e))

-- what is read as these pairs is spelt so
pub read-tokens : (input : List ℕ) (d : Data) (ps : List Pair) → read input ≡ Some d → pairs_of d ≡ Some ps → tokens input ≡ input_tokens ps
read-tokens input d ps is e = go (value 127 (tokens input)) refl is
  where
    go : (o : Option (Json × List Token)) → value 127 (tokens input) ≡ o → option_and_then of_json (option_and_then (λ p. if_last p.0 p.1) o) ≡ Some d
        → tokens input ≡ input_tokens ps
    go None at k = not_found d k
    go (Some (j, t ∷ ts)) at k = not_found d k
    go (Some (j, [])) at k = whole j (tokens input) ps at (ap (option_and_then pairs_of) k ∙ e)

-- an input spells one list of pairs
pub spelt-once : (input : List ℕ) (fs ps : List Pair) (d : Data) → tokens input ≡ input_tokens fs → read input ≡ Some d → pairs_of d ≡ Some ps → fs ≡ ps
spelt-once input fs ps d is at e =
    let v = tokens-read input fs is in
    Some_inj fs ps (sym v.2 ∙ ap pairs_of (Some_inj v.0 d (sym v.1 ∙ at)) ∙ e)
