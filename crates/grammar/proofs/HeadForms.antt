-- The form of a line, with a limit on the depth.
use Rattle.std.proofs.Common.{◌≡◌, ℕ, suc, ◌<◌, ◌≤◌, max, List, [], ◌∷◌, Option, Some, None, length, refl, sym, ap, subst, arith}
use Rattle.std.proofs.Math.Nat.{zero-max}
use Rattle.grammar.specs.declared.parts.Row.TheVariants.{Whole}
use Rattle.lexer.specs.declared.token.Word.TheVariants.{And, Break, Continue, Def, Elif, Else, For, If, In, Load, Not, Or, Pass, Reserved, Return}
use Rattle.lexer.specs.declared.token.Mark.TheVariants.{OpenParen}
use Rattle.lexer.specs.Tokens.{Token, name, number, string, word, mark}
use Rattle.grammar.specs.Tree.{Expr}
use Rattle.grammar.specs.Bare.{Tree, bare}
use Rattle.grammar.specs.Depth.{depth, simple_depth, body_depth, form_depth}
use Rattle.grammar.specs.Statements as W
use Rattle.grammar.specs.Statements.{Simple, Body, Commas, none_more, last_one, and_more}
use Rattle.grammar.specs.BareLines.{Form, if_head, elif_head, else_head, for_head, defines, without_commas, bare_param, bare_item, bare_simple}
use Rattle.grammar.specs.Built.{Belongs, body_made}
use Rattle.grammar.specs.Front.{next, name_at, names_in, behind_comma}
use Rattle.grammar.specs.Ahead.{is_done}
use Rattle.grammar.specs.Reading as R
use Rattle.grammar.specs.FormReading as F
use Rattle.grammar.specs.FormReading.{then_found, lead, form_reads}
use Rattle.grammar.specs.Descent as D
use Rattle.grammar.specs.FormDescent as FD
use Rattle.grammar.specs.FormDescent.{opening_at, behind_open, reads_form}
use Rattle.grammar.specs.LineForm.{shaped}
use Rattle.grammar.proofs.CappedForms.{CappedO, DeepO, deep_found, is_so, found, found_whole, found_same}
use Rattle.grammar.proofs.CommaForms.{commas_depth, onto_list, param_depth, params_depth_is, params_same, no_depth, items_flat, items_same, strings_same}
use Rattle.grammar.proofs.Descends.{part_of}
use Rattle.grammar.proofs.Gathers.{over_left, over_right, under_both}
use Rattle.grammar.proofs.Limited.{read_same}
use Rattle.grammar.proofs.SimpleForms.{simple_same, body_same}

-- a call's bracket
open_same : (ts : List Token) → F.open_at (next ts) ≡ behind_open ts
unfolding next behind_open
open_same (mark OpenParen ∷ ts) = refl
open_same (word Not ∷ word In ∷ ts) = refl
open_same _ = refl

plainly_same : (n : ℕ) (o : Option Simple) (o' : Option Form) → CappedO simple_depth bare_simple 200 o o' → CappedO form_depth shaped 200 (then_found o (λ s. Some (W.simple s))) (FD.plainly n o')
plainly_same n None o' c = subst (λ x. FD.plainly n x ≡ None) (sym c) refl
plainly_same n (Some s) o' c = ((λ le. ap (FD.plainly n) (c.0 le)), λ lt. ap (FD.plainly n) (c.1 lt))

-- with so many turns
module _ (n : ℕ) where
  bodied_found : (f : Form) (o : Option Belongs) → then_found o (λ b. Some (f, b)) ≡ FD.bodied n f o
  bodied_found f None = refl
  bodied_found f (Some b) = refl

  -- the body of a head that is so deep without it
  bodied_same : (make : Body → W.Form) (f : Form) (m : ℕ) → m ≤ 200 → ((b : Body) → form_depth (make b) ≡ max m (body_depth b)) → ((b : Body) → shaped (make b) ≡ (f, body_made b))
      → (u : List Token) → CappedO form_depth shaped 200 (then_found (F.body_at (R.read n) n u) (λ b. Some (make b))) (FD.bodied n f (FD.body n u))
  bodied_same make f m le e1 e2 u =
      subst (λ o. CappedO form_depth shaped 200 (then_found (F.body_at (R.read n) n u) (λ b. Some (make b))) o) (bodied_found f (FD.body n u))
      (found_whole body_depth body_made 200 form_depth shaped 200 (F.body_at (R.read n) n u) (FD.body n u) (λ b. Some (make b)) (λ b. Some (f, b)) (body_same n u)
      (λ b lb. ((λ _. ap Some (sym (e2 b))), λ lt. absurd (let k = under_both m (body_depth b) 200 le lb in let e = e1 b in Prim.omega (arith, e, k, lt))))
      (λ b lt. let k = over_right m (body_depth b) 200 lt in let e = e1 b in Prim.omega (arith, e, k)))

  bodied_deep : (make : Body → W.Form) (m : ℕ) → 200 < m → ((b : Body) → form_depth (make b) ≡ max m (body_depth b)) → (u : List Token) → DeepO form_depth 200 (then_found (F.body_at (R.read n) n u) (λ b. Some (make b)))
  bodied_deep make m lt e u = deep_found form_depth 200 (F.body_at (R.read n) n u) (λ b. Some (make b)) (λ b. let k = over_left m (body_depth b) 200 lt in let d = e b in Prim.omega (arith, d, k))

  -- an expression and a body
  headed_same : (make : Expr → Body → W.Form) (make' : Tree → Form) → ((a : Expr) (b : Body) → form_depth (make a b) ≡ max (depth a) (body_depth b)) → ((a : Expr) (b : Body) → shaped (make a b) ≡ (make' (bare a), body_made b))
      → (ts : List Token) → CappedO form_depth shaped 200 (F.headed (R.read n) n make ts) (FD.headed n make' ts)
  unfolding FD.headed
  headed_same make make' e1 e2 ts =
      found depth part_of 200 form_depth shaped 200 (R.read n R.whole ts) (D.read n Whole 200 ts) (λ r. then_found (F.body_at (R.read n) n r.1) (λ b. Some (make r.0 b))) (λ p. FD.bodied n (make' p.0.tree) (FD.body n p.1)) (read_same n Whole 200 ts)
      (λ a u le. bodied_same (make a) (make' (bare a)) (depth a) le (e1 a) (e2 a) u)
      (λ a u lt. bodied_deep (make a) (depth a) lt (e1 a) u)

  else_same : (ts : List Token) → CappedO form_depth shaped 200 (then_found (F.body_at (R.read n) n ts) (λ b. Some (W.else_head b))) (FD.bodied n else_head (FD.body n ts))
  else_same ts = bodied_same W.else_head else_head 0 (Prim.omega arith) (λ b. sym (zero-max (body_depth b))) (λ b. refl) ts

  for_same : (ts : List Token) → CappedO form_depth shaped 200 (then_found (name_at ts) (λ r. then_found (names_in r.1) (λ s. F.headed (R.read n) n (W.for_head r.0 s.0) s.1))) (FD.for_line n ts)
  unfolding FD.for_line
  for_same ts =
      found_same form_depth shaped 200 (name_at ts) (λ r. then_found (names_in r.1) (λ s. F.headed (R.read n) n (W.for_head r.0 s.0) s.1)) (λ r. then_found (names_in r.1) (λ s. FD.headed n (for_head r.0 s.0) s.1))
      (λ r. found_same form_depth shaped 200 (names_in r.1) (λ s. F.headed (R.read n) n (W.for_head r.0 s.0) s.1) (λ s. FD.headed n (for_head r.0 s.0) s.1)
      (λ s. headed_same (W.for_head r.0 s.0) (for_head r.0 s.0) (λ a b. refl) (λ a b. refl) s.1))

  -- a function's head, behind its bracket
  abbrev params_then : List ℕ → List Token → Option W.Form
  params_then x u = then_found (F.commas (F.param_at (R.read n) n) n u) (λ ps. then_found (F.body_at (R.read n) n ps.1) (λ b. Some (W.defines x ps.0 b)))

  depth_by : (x : List ℕ) (ps : Commas W.Param) (b : Body) → form_depth (W.defines x ps b) ≡ max (commas_depth param_depth ps) (body_depth b)
  depth_by x ps b = ap (λ m. max m (body_depth b)) (params_depth_is ps)

  def_open_same : (x : List ℕ) (o : Option (List Token)) → CappedO form_depth shaped 200 (then_found o (params_then x)) (FD.def_open n x o)
  def_open_same x None = refl
  def_open_same x (Some u) =
      found (commas_depth param_depth) (onto_list bare_param []) 200 form_depth shaped 200 (F.commas (F.param_at (R.read n) n) n u) (FD.params n u) (λ ps. then_found (F.body_at (R.read n) n ps.1) (λ b. Some (W.defines x ps.0 b))) (λ ps. FD.bodied n (defines x ps.0) (FD.body n ps.1)) (params_same n u)
      (λ ps v le. bodied_same (W.defines x ps) (defines x (without_commas bare_param ps)) (commas_depth param_depth ps) le (depth_by x ps) (λ b. refl) v)
      (λ ps v lt. bodied_deep (W.defines x ps) (commas_depth param_depth ps) lt (depth_by x ps) v)

  def_same : (ts : List Token) → CappedO form_depth shaped 200 (F.def_at (R.read n) n ts) (FD.def_line n ts)
  unfolding FD.def_line
  def_same ts =
      found_same form_depth shaped 200 (name_at ts) (λ r. then_found (F.open_at (next r.1)) (params_then r.0)) (λ r. FD.def_open n r.0 (behind_open r.1))
      (λ r. subst (λ o. CappedO form_depth shaped 200 (then_found (F.open_at (next r.1)) (params_then r.0)) (FD.def_open n r.0 o)) (open_same r.1) (def_open_same r.0 (F.open_at (next r.1))))

  -- a `load`, from its end on
  load_end_same : (s : List ℕ) (l : Commas W.Item) (u : List Token) → CappedO form_depth shaped 200 (F.load_end (R.read n) n s l u (W.some_more l)) (FD.load_end n s (without_commas bare_item l) (FD.some_items n (without_commas bare_item l)) (is_done u))
  load_end_same s none_more [] = refl
  load_end_same s none_more (t ∷ u) = refl
  load_end_same s (last_one i) [] = is_so form_depth shaped 200 (W.loads s (last_one i)) (Prim.omega arith)
  load_end_same s (last_one i) (t ∷ u) = refl
  load_end_same s (and_more i l) [] = is_so form_depth shaped 200 (W.loads s (and_more i l)) (Prim.omega arith)
  load_end_same s (and_more i l) (t ∷ u) = refl

  abbrev items_then : List ℕ → List Token → Option W.Form
  items_then s v = then_found (F.commas F.item_at n v) (λ l. F.load_end (R.read n) n s l.0 l.1 (W.some_more l.0))

  load_comma_same : (s : List ℕ) (o : Option (List Token)) → CappedO form_depth shaped 200 (then_found o (items_then s)) (FD.load_comma n s o)
  load_comma_same s None = refl
  load_comma_same s (Some v) =
      found (commas_depth no_depth) (onto_list bare_item []) 200 form_depth shaped 200 (F.commas F.item_at n v) (FD.items n v) (λ l. F.load_end (R.read n) n s l.0 l.1 (W.some_more l.0)) (λ l. FD.load_end n s l.0 (FD.some_items n l.0) (is_done l.1)) (items_same n v)
      (λ l u le. load_end_same s l u)
      (λ l u lt. absurd (let e = items_flat l in Prim.omega (arith, e, lt)))

  abbrev string_then : List Token → Option W.Form
  string_then u = then_found (F.string_at u) (λ s. then_found (behind_comma s.1) (items_then s.0))

  load_open_same : (o : Option (List Token)) → CappedO form_depth shaped 200 (then_found o string_then) (FD.load_open n o)
  load_open_same None = refl
  load_open_same (Some u) =
      subst (λ o. CappedO form_depth shaped 200 (string_then u) (then_found o (λ s. FD.load_comma n s.0 (behind_comma s.1)))) (strings_same u)
      (found_same form_depth shaped 200 (F.string_at u) (λ s. then_found (behind_comma s.1) (items_then s.0)) (λ s. FD.load_comma n s.0 (behind_comma s.1)) (λ s. load_comma_same s.0 (behind_comma s.1)))

  load_same : (ts : List Token) → CappedO form_depth shaped 200 (F.load_at (R.read n) n ts) (FD.load_line n ts)
  unfolding FD.load_line
  load_same ts = subst (λ o. CappedO form_depth shaped 200 (then_found (F.open_at (next ts)) string_then) (FD.load_open n o)) (open_same ts) (load_open_same (F.open_at (next ts)))

  simply_same : (ts : List Token) → CappedO form_depth shaped 200 (F.simply (R.read n) n ts) (FD.plainly n (FD.simple n ts))
  simply_same ts = plainly_same n (F.simple_at (R.read n) n ts) (FD.simple n ts) (simple_same n ts)

  pub form_same : (ts : List Token) → CappedO form_depth shaped 200 (F.form_at (R.read n) n ts) (FD.form n ts)
  unfolding F.form_at FD.form FD.simple lead opening_at
  form_same [] = refl
  form_same (word Load ∷ ts) = load_same ts
  form_same (word Def ∷ ts) = def_same ts
  form_same (word If ∷ ts) = headed_same W.if_head if_head (λ a b. refl) (λ a b. refl) ts
  form_same (word Elif ∷ ts) = headed_same W.elif_head elif_head (λ a b. refl) (λ a b. refl) ts
  form_same (word Else ∷ ts) = else_same ts
  form_same (word For ∷ ts) = for_same ts
  form_same (word And ∷ ts) = simply_same (word And ∷ ts)
  form_same (word In ∷ ts) = simply_same (word In ∷ ts)
  form_same (word Or ∷ ts) = simply_same (word Or ∷ ts)
  form_same (word Reserved ∷ ts) = simply_same (word Reserved ∷ ts)
  form_same (word Pass ∷ ts) = simply_same (word Pass ∷ ts)
  form_same (word Break ∷ ts) = simply_same (word Break ∷ ts)
  form_same (word Continue ∷ ts) = simply_same (word Continue ∷ ts)
  form_same (word Return ∷ ts) = simply_same (word Return ∷ ts)
  form_same (word Not ∷ ts) = simply_same (word Not ∷ ts)
  form_same (name x ∷ ts) = simply_same (name x ∷ ts)
  form_same (number x ∷ ts) = simply_same (number x ∷ ts)
  form_same (string x ∷ ts) = simply_same (string x ∷ ts)
  form_same (mark x ∷ ts) = simply_same (mark x ∷ ts)

-- the two readings of the form of a line agree, up to the limit
pub form_reads_same : (ts : List Token) → CappedO form_depth shaped 200 (form_reads ts) (reads_form ts)
unfolding reads_form
form_reads_same ts = form_same (suc (length ts)) ts
