-- Things with commas between them that are read one after the other, with a limit on the depth: parameters, and what a
-- `load` binds.
use Rattle.std.proofs.Common.{◌≡◌, ℕ, zero, suc, ◌<◌, ◌≤◌, max, List, [], ◌∷◌, ◌++◌, Option, Some, None, refl, sym, ap, ◌∙◌, subst, arith}
use Rattle.std.proofs.Math.Nat.{zero-max}
use Rattle.grammar.specs.declared.parts.Row.TheVariants.{Whole}
use Rattle.lexer.specs.declared.layout.Bracket.TheVariants.{Round}
use Rattle.lexer.specs.declared.token.Mark.TheVariants.{Assign}
use Rattle.lexer.specs.declared.token.Word.TheVariants.{In, Not}
use Rattle.lexer.specs.Tokens.{Token, string, word, mark}
use Rattle.grammar.specs.Depth.{depth, params_depth}
use Rattle.grammar.specs.Statements as W
use Rattle.grammar.specs.Statements.{Commas, none_more, last_one, and_more, same_name, renamed}
use Rattle.grammar.specs.BareLines.{optional, Item, without_commas, bare_param, bare_item}
use Rattle.grammar.specs.Front.{next, name_at, behind_close, behind_comma}
use Rattle.grammar.specs.Ahead as ahead
use Rattle.grammar.specs.Reading as R
use Rattle.grammar.specs.Reading.{Parse, then_read}
use Rattle.grammar.specs.FormReading as F
use Rattle.grammar.specs.Descent as D
use Rattle.grammar.specs.FormDescent as FD
use Rattle.grammar.specs.FormDescent.{behind_assign}
use Rattle.grammar.proofs.Capped.{Capped, Deep, deep_then, bind, passes, stays, wrapped}
use Rattle.grammar.proofs.Descends.{part_of}
use Rattle.grammar.proofs.FrontSame.{named_same}
use Rattle.grammar.proofs.Gathers.{over_left, under_right, right_is_over}
use Rattle.grammar.proofs.Limited.{read_same}

abbrev pub commas_depth : {A : Type 0} → (A → ℕ) → Commas A → ℕ
commas_depth d none_more = 0
commas_depth d (last_one a) = d a
commas_depth d (and_more a l) = max (d a) (commas_depth d l)

abbrev pub snoc : {B : Type 0} → List B → B → List B
snoc s b = s ++ b ∷ []

-- things that are taken up one after the other
abbrev pub onto_list : {A B : Type 0} → (A → B) → List B → Commas A → List B
onto_list v s l = s ++ without_commas v l

append_none : {B : Type 0} (s : List B) → s ++ [] ≡ s
append_none [] = refl
append_none (b ∷ s) = ap (λ t. b ∷ t) (append_none s)

append_more : {B : Type 0} (s : List B) (b : B) (l : List B) → (s ++ b ∷ []) ++ l ≡ s ++ b ∷ l
append_more [] b l = refl
append_more (c ∷ s) b l = ap (λ t. c ∷ t) (append_more s b l)

after_deep : {A : Type 0} (d : A → ℕ) (r : ℕ) (more : Parse (Commas A)) (a : A) → r < d a → (c e : Option (List Token)) → Deep (commas_depth d) r (F.after_one more a c e)
after_deep d r more a lt (Some u) e = lt
after_deep d r more a lt None (Some u) = deep_then (commas_depth d) r (more u) (λ l v. Some (and_more a l, v)) (λ l v. over_left (d a) (commas_depth d l) r lt)
after_deep d r more a lt None None = tt

after_same : {A B : Type 0} (d : A → ℕ) (v : A → B) (r : ℕ) (more : Parse (Commas A)) (more' : List B → Parse (List B)) → ((s : List B) (u : List Token) → Capped (commas_depth d) (onto_list v s) r (more u) (more' s u))
    → (s : List B) (a : A) → d a ≤ r → (c e : Option (List Token)) → Capped (commas_depth d) (onto_list v s) r (F.after_one more a c e) (D.after_one more' (s ++ v a ∷ []) c e)
after_same d v r more more' h s a le (Some u) e = stays (commas_depth d) (onto_list v s) r (last_one a) u le
after_same d v r more more' h s a le None (Some u) =
    wrapped (commas_depth d) (onto_list v (s ++ v a ∷ [])) (commas_depth d) (onto_list v s) r (and_more a) (more u) (more' (s ++ v a ∷ []) u) (h (s ++ v a ∷ []) u)
    (λ l k. under_right (d a) (commas_depth d l) r k)
    (λ l k. right_is_over (d a) (commas_depth d l) r le k)
    (λ l. sym (append_more s (v a) (without_commas v l)))
after_same d v r more more' h s a le None None = refl

commas_step_same : {A B : Type 0} (d : A → ℕ) (v : A → B) (r : ℕ) (one : Parse A) (one' : Parse B) → ((ts : List Token) → Capped d v r (one ts) (one' ts))
    → (more : Parse (Commas A)) (more' : List B → Parse (List B)) → ((s : List B) (u : List Token) → Capped (commas_depth d) (onto_list v s) r (more u) (more' s u))
    → (s : List B) (ts : List Token) (c : Option (List Token)) → Capped (commas_depth d) (onto_list v s) r (F.commas_step more one ts c) (D.gather_step one' snoc more' Round s ts c)
commas_step_same d v r one one' same more more' h s ts (Some u) = ((λ _. ap (λ t. Some (t, u)) (sym (append_none s))), λ lt. absurd (Prim.omega (arith, lt)))
commas_step_same d v r one one' same more more' h s ts None =
    bind d v r (commas_depth d) (onto_list v s) r (one ts) (one' ts) (λ a u. F.after_one more a (behind_close Round u) (behind_comma u)) (λ b u. D.after_one more' (s ++ b ∷ []) (behind_close Round u) (behind_comma u)) (same ts)
    (λ a u le. after_same d v r more more' h s a le (behind_close Round u) (behind_comma u))
    (λ a u lt. after_deep d r more a lt (behind_close Round u) (behind_comma u))

pub commas_same : {A B : Type 0} (d : A → ℕ) (v : A → B) (r : ℕ) (one : Parse A) (one' : Parse B) → ((ts : List Token) → Capped d v r (one ts) (one' ts))
    → (k : ℕ) (s : List B) (ts : List Token) → Capped (commas_depth d) (onto_list v s) r (F.commas one k ts) (D.gather one' snoc Round k s ts)
unfolding F.commas D.gather
commas_same d v r one one' same zero s ts = refl
commas_same d v r one one' same (suc k) s ts = commas_step_same d v r one one' same (F.commas one k) (λ s. D.gather one' snoc Round k s) (commas_same d v r one one' same k) s ts (behind_close Round ts)

-- parameters
abbrev pub param_depth : W.Param → ℕ
param_depth (W.required x) = 0
param_depth (W.optional x a) = depth a

pub params_depth_is : (ps : Commas W.Param) → params_depth ps ≡ commas_depth param_depth ps
params_depth_is none_more = refl
params_depth_is (last_one (W.required x)) = refl
params_depth_is (last_one (W.optional x a)) = refl
params_depth_is (and_more (W.required x) ps) = params_depth_is ps ∙ sym (zero-max (commas_depth param_depth ps))
params_depth_is (and_more (W.optional x a) ps) = ap (max (depth a)) (params_depth_is ps)

-- with so many turns
module _ (n : ℕ) where
  default_same : (x : List ℕ) (u : List Token) → Capped param_depth bare_param 200 (F.default_step (R.read n) n x u (next u)) (FD.default_step n x u (behind_assign u))
  unfolding next behind_assign
  default_same x (mark Assign ∷ v) =
      bind depth part_of 200 param_depth bare_param 200 (R.read n R.whole v) (D.read n Whole 200 v) (λ a w. Some (W.optional x a, w)) (λ a w. Some (optional x a.tree, w)) (read_same n Whole 200 v)
      (λ a w le. stays param_depth bare_param 200 (W.optional x a) w le)
      (λ a w lt. lt)
  default_same x (word Not ∷ word In ∷ v) = stays param_depth bare_param 200 (W.required x) (word Not ∷ word In ∷ v) (Prim.omega arith)
  default_same x u = stays param_depth bare_param 200 (W.required x) u (Prim.omega arith)

  pub param_same : (ts : List Token) → Capped param_depth bare_param 200 (F.param_at (R.read n) n ts) (FD.param n ts)
  unfolding FD.param
  param_same ts = passes param_depth bare_param 200 (name_at ts) (λ x u. F.default_step (R.read n) n x u (next u)) (λ x u. FD.default_step n x u (behind_assign u)) default_same

  pub params_same : (ts : List Token) → Capped (commas_depth param_depth) (onto_list bare_param []) 200 (F.commas (F.param_at (R.read n) n) n ts) (FD.params n ts)
  unfolding FD.params
  params_same ts = commas_same param_depth bare_param 200 (F.param_at (R.read n) n) (FD.param n) param_same n [] ts

-- what a `load` binds
abbrev pub no_depth : W.Item → ℕ
no_depth i = 0

pub items_flat : (l : Commas W.Item) → commas_depth no_depth l ≡ 0
items_flat none_more = refl
items_flat (last_one i) = refl
items_flat (and_more i l) = zero-max (commas_depth no_depth l) ∙ items_flat l

pub strings_same : (ts : List Token) → F.string_at ts ≡ ahead.string_at ts
unfolding F.string_at ahead.string_at
strings_same (string s ∷ ts) = refl
strings_same _ = refl

string_is : (ts : List Token) (g : List ℕ → W.Item) (g' : List ℕ → Item) → ((s : List ℕ) → bare_item (g s) ≡ g' s) → Capped no_depth bare_item 200 (then_read (F.string_at ts) (λ s u. Some (g s, u))) (then_read (ahead.string_at ts) (λ s u. Some (g' s, u)))
string_is ts g g' e =
    subst (λ o. Capped no_depth bare_item 200 (then_read (F.string_at ts) (λ s u. Some (g s, u))) (then_read o (λ s u. Some (g' s, u)))) (strings_same ts)
    (passes no_depth bare_item 200 (F.string_at ts) (λ s u. Some (g s, u)) (λ s u. Some (g' s, u)) (λ s u. ((λ _. ap (λ i. Some (i, u)) (sym (e s))), λ lt. absurd (Prim.omega (arith, lt)))))

module _ (n : ℕ) where
  item_step_same : (ts : List Token) (o : Option (List ℕ × List Token)) → Capped no_depth bare_item 200 (F.renamed_step ts o) (FD.item_step n ts o)
  item_step_same ts None = string_is ts same_name (λ s. record { binds = s; asked = s }) (λ s. refl)
  item_step_same ts (Some p) = string_is p.1 (renamed p.0) (λ s. record { binds = p.0; asked = s }) (λ s. refl)

  item_same : (ts : List Token) → Capped no_depth bare_item 200 (F.item_at ts) (FD.item n ts)
  unfolding FD.item
  item_same ts = subst (λ o. Capped no_depth bare_item 200 (F.item_at ts) (FD.item_step n ts o)) (sym (named_same ts)) (item_step_same ts _)

  pub items_same : (ts : List Token) → Capped (commas_depth no_depth) (onto_list bare_item []) 200 (F.commas F.item_at n ts) (FD.items n ts)
  unfolding FD.items
  items_same ts = commas_same no_depth bare_item 200 F.item_at (FD.item n) item_same n [] ts
