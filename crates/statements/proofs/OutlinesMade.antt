-- The outlines of lines, by what is read of them with the limit on the depth, tell which line is refused; and the lines
-- of a file that has a tree are read with the limit as they are without.
use Rattle.std.proofs.Common.{◌≡◌, ℕ, ◌≤◌, ◌<◌, Bool, true, false, List, [], ◌∷◌, map, refl, sym, ap, ◌∙◌, subst, inl, inr, ◌⊎◌, ◌&&◌, ◌==◌, nat_le, Option, Some, None, Result, Ok, Err, if◌then◌else◌}
use Rattle.std.specs.Prelude.{filter_map, option_map}
use Rattle.std.specs.List.{cons_option}
use Rattle.std.proofs.lemmas.Bool.Decides.{leb_tells}
use Rattle.statements.specs.declared.outline.Open.{Open}
use Rattle.statements.specs.declared.outline.Shape.{Shape}
use Rattle.statements.specs.declared.outline.Body as outlines
use Rattle.statements.specs.declared.outline.Formed.{Formed}
use Rattle.statements.specs.declared.outline.Outline.{Outline}
use Rattle.statements.specs.declared.outline.Place as places
use Rattle.lexer.specs.declared.token.Token as found
use Rattle.lexer.specs.Tokens.{Token, name, number, string, word, mark}
use Rattle.grammar.specs.Tree.{Expr, identifier, integer, text, display, comprehension, conditional, operation, signed, field, index, call}
use Rattle.grammar.specs.Spelling.{Spells, spelled}
use Rattle.grammar.specs.Levels.{IsTree}
use Rattle.lexer.specs.Layout.{◌>>=◌}
use Rattle.grammar.specs.Statements.{Simple, assigns, assigns_at, increases, increases_at, evaluates, passes, breaks, continues, returns, returns_list, Body, block, inline, Form, loads, simple, defines, if_head, elif_head, else_head, for_head, IsForm, SpellsForm, form_spelled}
use Rattle.grammar.specs.BareLines.{bare_simple, bare_form}
use Rattle.grammar.specs.FormReading.{form_reads}
use Rattle.grammar.specs.Depth.{form_depth}
use Rattle.grammar.specs.Blocks.{Block, no_lines, plain_line, head_line, Laid, laid, block_laid, IsBlock}
use Rattle.grammar.specs.Places as place
use Rattle.grammar.specs.BlockReading.{file_reads}
use Rattle.statements.specs.Outlines.{shape_stands, body_stands, within, follows, early_enough, opens, behind, inside, top_level, opened, formed, in_block, stepped, down_to, pass, first_of, block_column, simple_shape, body_of, formed_of, form_outline, outline_of, place_of}
use Rattle.grammar.specs.Built.{made_line, made_lines, body_made, form_body, made, built}
use Rattle.grammar.specs.FormDescent.{Shaped, reads_form}
use Rattle.grammar.specs.LineForm.{shaped}
use Rattle.statements.specs.FormView.{is_text, value_shape, shape_of, body_shape, formed_as, outline_read, line_read}
use Rattle.lexer.specs.Seen.{seen}
use Rattle.grammar.specs.Ahead.{tokens_seen}
use Rattle.grammar.specs.BareLines.{bare_lines}
use Rattle.grammar.proofs.BuiltLaws.{file_built}
use Rattle.grammar.proofs.CappedForms.{CappedO}
use Rattle.grammar.proofs.FilesRead.{file_sound}
use Rattle.grammar.proofs.HeadForms.{form_reads_same}
use Rattle.grammar.proofs.LineTokens.{without_places}
use Rattle.grammar.proofs.LinesRead.{is_read_form}
use Rattle.grammar.proofs.LinesSound.{form_is}
use Rattle.grammar.proofs.Complete.{one_tree}
use Rattle.statements.proofs.OutlinesRead.{outlines_is, outlines_as}

-- a string alone
is_string : (ts : List Token) → is_text ts ≡ true → (s : List ℕ) × (ts ≡ string s ∷ [])
unfolding is_text
is_string (string s ∷ []) e = (s, refl)
is_string [] e = absurd cc
is_string (string s ∷ t ∷ ts) e = absurd cc
is_string (name x ∷ ts) e = absurd cc
is_string (number x ∷ ts) e = absurd cc
is_string (word x ∷ ts) e = absurd cc
is_string (mark x ∷ ts) e = absurd cc

string_is : (s : List ℕ) → is_text (string s ∷ []) ≡ true
unfolding is_text
string_is s = refl

text_only : (ts : List Token) (a : Expr) → Spells ts a → is_text ts ≡ true → (s : List ℕ) × (a ≡ text s)
text_only ts a h e =
    let k = is_string ts e in
    (k.0, one_tree a (text k.0) h.is_tree tt (sym h.whole ∙ k.1))

shape_ok : (a : Expr) (b : Bool) → (b ≡ true → (s : List ℕ) × (a ≡ text s)) → ((s : List ℕ) → a ≡ text s → b ≡ true) → simple_shape (evaluates a) ≡ value_shape b
shape_ok (text s) true h k = refl
shape_ok (text s) false h k = absurd (let e = k s refl in cc)
shape_ok (identifier x) true h k = absurd (let e = (h refl).1 in cc)
shape_ok (integer n) true h k = absurd (let e = (h refl).1 in cc)
shape_ok (display b ms) true h k = absurd (let e = (h refl).1 in cc)
shape_ok (comprehension b m cs) true h k = absurd (let e = (h refl).1 in cc)
shape_ok (conditional a c b) true h k = absurd (let e = (h refl).1 in cc)
shape_ok (operation o a b) true h k = absurd (let e = (h refl).1 in cc)
shape_ok (signed o a) true h k = absurd (let e = (h refl).1 in cc)
shape_ok (field f x) true h k = absurd (let e = (h refl).1 in cc)
shape_ok (index f a) true h k = absurd (let e = (h refl).1 in cc)
shape_ok (call f ms) true h k = absurd (let e = (h refl).1 in cc)
shape_ok a false h k = refl

value_ok : (ts : List Token) (a : Expr) → IsTree a → ts ≡ spelled a [] → simple_shape (evaluates a) ≡ value_shape (is_text ts)
value_ok ts a h e = shape_ok a (is_text ts) (text_only ts a (record { is_tree = h; whole = e })) (λ s f. ap is_text (e ∙ ap (λ a. spelled a []) f) ∙ string_is s)

simple_ok : (ts : List Token) (s : Simple) → SpellsForm ts (simple s) → simple_shape s ≡ shape_of (is_text ts) (bare_simple s)
simple_ok ts (evaluates a) h = value_ok ts a h.is_form h.whole
simple_ok ts (assigns x xs l) h = refl
simple_ok ts (assigns_at f a l) h = refl
simple_ok ts (increases x a) h = refl
simple_ok ts (increases_at f a b) h = refl
simple_ok ts passes h = refl
simple_ok ts breaks h = refl
simple_ok ts continues h = refl
simple_ok ts returns h = refl
simple_ok ts (returns_list l) h = refl

form_ok : (ts : List Token) (f : Form) → SpellsForm ts f → (formed_of f).shape ≡ shape_of (is_text ts) (bare_form f)
form_ok ts (simple s) h = simple_ok ts s h
form_ok ts (loads s items) h = refl
form_ok ts (defines x ps b) h = refl
form_ok ts (if_head a b) h = refl
form_ok ts (elif_head a b) h = refl
form_ok ts (else_head b) h = refl
form_ok ts (for_head x xs a b) h = refl

-- bodies of which the one stands where the other does
abbrev Alike : outlines.Body → outlines.Body → Type 0
Alike b c = ((p : places.Place) → body_stands p b ≡ body_stands p c) × (opens b ≡ opens c)

inline_stands : (p : places.Place) (s : Simple) → shape_stands p (simple_shape s) ≡ shape_stands p (shape_of false (bare_simple s))
inline_stands p (evaluates (text s)) = refl
inline_stands p (evaluates a) = refl
inline_stands p (assigns x xs l) = refl
inline_stands p (assigns_at f a l) = refl
inline_stands p (increases x a) = refl
inline_stands p (increases_at f a b) = refl
inline_stands p passes = refl
inline_stands p breaks = refl
inline_stands p continues = refl
inline_stands p returns = refl
inline_stands p (returns_list l) = refl

body_alike : (b : Body) → Alike (body_of b) (body_shape (body_made b))
body_alike block = ((λ p. refl), refl)
body_alike (inline s) = ((λ p. inline_stands p s), refl)

form_alike : (f : Form) → Alike (formed_of f).body (body_shape (form_body f))
form_alike (loads s items) = ((λ p. refl), refl)
form_alike (simple s) = ((λ p. refl), refl)
form_alike (defines x ps b) = body_alike b
form_alike (if_head a b) = body_alike b
form_alike (elif_head a b) = body_alike b
form_alike (else_head b) = body_alike b
form_alike (for_head x xs a b) = body_alike b

abbrev AlikeO : Option Formed → Option Formed → Type 0
AlikeO None None = Unit {0}
AlikeO (Some f) (Some g) = (f.shape ≡ g.shape) × Alike f.body g.body
AlikeO _ _ = ⊥

-- of a form
some_alike : (ts : List Token) (f : Form) (o : Option Shaped) → SpellsForm ts f → CappedO form_depth shaped 200 (Some f) o
    → ((nat_le (form_depth f) 200 ≡ true) × (form_depth f ≤ 200)) ⊎ ((nat_le (form_depth f) 200 ≡ false) × (200 < form_depth f)) → AlikeO (form_outline (Some f)) (option_map (formed_as (is_text ts)) o)
some_alike ts f o h c (inl t) =
    let e = t.0 in
    rw (e, form_outline) (subst (λ o. AlikeO (Some (formed_of f)) (option_map (formed_as (is_text ts)) o)) (sym (c.0 t.1)) (form_ok ts f h, form_alike f))
some_alike ts f o h c (inr t) =
    let e = t.0 in
    rw (e, form_outline) (subst (λ o. AlikeO None (option_map (formed_as (is_text ts)) o)) (sym (c.1 t.1)) tt)

read_alike : (ts : List Token) (r : Option Form) (o : Option Shaped) → form_reads ts ≡ r → CappedO form_depth shaped 200 r o → AlikeO (form_outline r) (option_map (formed_as (is_text ts)) o)
read_alike ts None o e c = subst (λ o. AlikeO None (option_map (formed_as (is_text ts)) o)) (sym c) tt
read_alike ts (Some f) o e c = some_alike ts f o (form_is ts f e) c (leb_tells (form_depth f) 200)

line_alike : (ts : List Token) → AlikeO (form_outline (form_reads ts)) (option_map (formed_as (is_text ts)) (reads_form ts))
line_alike ts = read_alike ts (form_reads ts) (reads_form ts) refl (form_reads_same ts)

-- the columns of blocks are the same
column_alike : (l : Laid) (ls : List Laid) → block_column (outline_read l) (first_of (map outline_read ls)) ≡ block_column (outline_of l) (first_of (map outline_of ls))
column_alike l [] = refl
column_alike l (m ∷ ms) = refl

module _ (l : Laid) (ls : List Laid) where
  abbrev read_next : Option Outline
  read_next = first_of (map outline_read ls)

  abbrev next : Option Outline
  next = first_of (map outline_of ls)

  -- a line of the one shape and with alike bodies
  shape_formed : (o : Open) (os : List Open) (s : Shape) (b c : outlines.Body) → Alike b c
      → formed o os (outline_read l) read_next (Some (record { shape = s; body = c })) ≡ formed o os (outline_of l) next (Some (record { shape = s; body = b }))
  shape_formed o os s b c h =
      ap (λ z. if (shape_stands o.place s && z) && (follows o.after s && early_enough o.early s) then opened o os (record { shape = s; body = c }) (outline_read l) read_next else Err l.line) (sym (h.0 (within o.place s)))
      ∙ ap (λ z. if (shape_stands o.place s && body_stands (within o.place s) b) && (follows o.after s && early_enough o.early s) then (if z then (block_column (outline_read l) read_next >>= λ column. Ok (inside o (record { shape = s; body = b }) column ∷ behind o (record { shape = s; body = b }) ∷ os)) else Ok (behind o (record { shape = s; body = b }) ∷ os)) else Err l.line) (sym h.1)
      ∙ ap (λ z. if (shape_stands o.place s && body_stands (within o.place s) b) && (follows o.after s && early_enough o.early s) then (if opens b then (z >>= λ column. Ok (inside o (record { shape = s; body = b }) column ∷ behind o (record { shape = s; body = b }) ∷ os)) else Ok (behind o (record { shape = s; body = b }) ∷ os)) else Err l.line) (column_alike l ls)

  formed_alike : (o : Open) (os : List Open) (a b : Option Formed) → AlikeO a b → formed o os (outline_read l) read_next b ≡ formed o os (outline_of l) next a
  formed_alike o os None None h = refl
  formed_alike o os (Some f) (Some g) h =
      subst (λ s. formed o os (outline_read l) read_next (Some (record { shape = s; body = g.body })) ≡ formed o os (outline_of l) next (Some f)) h.0 (shape_formed o os f.shape f.body g.body h.1)
  formed_alike o os None (Some g) h = absurd h
  formed_alike o os (Some f) None h = absurd h

  block_alike : (os : List Open) → in_block (outline_read l) read_next os ≡ in_block (outline_of l) next os
  block_alike [] = refl
  block_alike (o ∷ os) = ap (λ r. if l.column == o.column then r else Err l.line) (formed_alike o os (form_outline (form_reads l.tokens)) (option_map (formed_as (is_text l.tokens)) (reads_form l.tokens)) (line_alike l.tokens))

pass_then : (ls : List Laid) (r : Result (List Open) ℕ) → ((os : List Open) → pass (map outline_read ls) os ≡ pass (map outline_of ls) os) → (r >>= pass (map outline_read ls)) ≡ (r >>= pass (map outline_of ls))
pass_then ls (Ok os) h = h os
pass_then ls (Err n) h = refl

-- what is read with the limit is refused at the same line
pub pass_alike : (ls : List Laid) (os : List Open) → pass (map outline_read ls) os ≡ pass (map outline_of ls) os
unfolding pass
pass_alike [] os = refl
pass_alike (l ∷ ls) os =
    ap (λ r. r >>= pass (map outline_read ls)) (block_alike l ls (down_to l.column os))
    ∙ pass_then ls (stepped (outline_of l) (first_of (map outline_of ls)) os) (pass_alike ls)

-- a line of a file that has a tree
line_same : (l : Laid) (f : Form) → IsForm f → form_depth f ≤ 200 → l.tokens ≡ form_spelled f → line_read l ≡ made_line l
line_same l f h le e =
    let k : form_reads l.tokens ≡ Some f = is_read_form l.tokens f (record { is_form = h; whole = e }) in
    let c = subst (λ r. CappedO form_depth shaped 200 r (reads_form l.tokens)) k (form_reads_same l.tokens) in
    ap (option_map (λ (s : Shaped). record { number = l.line; column = l.column; form = s.0; body = s.1 })) (c.0 le) ∙ sym (ap (option_map (made l.line l.column)) k)

first_same : (l : Laid) (ls : List Laid) (f : Form) → IsForm f → form_depth f ≤ 200 → l.tokens ≡ form_spelled f → filter_map line_read ls ≡ filter_map made_line ls → filter_map line_read (l ∷ ls) ≡ filter_map made_line (l ∷ ls)
first_same l ls f h le e r = ap (λ m. cons_option m (filter_map line_read ls)) (line_same l f h le e) ∙ ap (cons_option (made_line l)) r

block_same : (p : place.Place) (after early : Bool) (c : ℕ) (b : Block) (rest : List Laid) → IsBlock p after early c b → filter_map line_read rest ≡ filter_map made_line rest
    → filter_map line_read (block_laid c b rest) ≡ filter_map made_line (block_laid c b rest)
block_same p after early c no_lines rest h r = r
block_same p after early c (plain_line n f b) rest h r =
    first_same (record { line = n; column = c; tokens = form_spelled f }) (block_laid c b rest) f h.0.is_form h.0.not_deep refl (block_same p _ _ c b rest h.2 r)
block_same p after early c (head_line n f d inner b) rest h r =
    first_same (record { line = n; column = c; tokens = form_spelled f }) (block_laid d inner (block_laid c b rest)) f h.0.is_form h.0.not_deep refl
    (block_same _ false false d inner (block_laid c b rest) h.4 (block_same p _ _ c b rest h.5 r))

-- the lines that are read of a file that has a tree are put into its blocks
pub read_built : (p : place.Place) (lines : List (List Rattle.lexer.specs.Tokens.Placed)) (b : Block) → file_reads p (map laid lines) ≡ Ok b → built (filter_map line_read (map laid lines)) ≡ bare_lines b
read_built p lines b e =
    let h = file_sound p lines b e in
    ap (λ ls. built (filter_map line_read ls)) h.whole
    ∙ ap built (block_same p false true 0 b [] h.is_block refl)
    ∙ sym (ap (λ ls. built (made_lines ls)) h.whole)
    ∙ file_built p lines b e

-- the outlines that are read tell whether there is a tree
tree_by : (p : place.Place) (ls : List Laid) (os : List Open) (r : Result Block ℕ) → file_reads p ls ≡ r → pass (map outline_read ls) (top_level (place_of p) ∷ []) ≡ Ok os → (b : Block) × (file_reads p ls ≡ Ok b)
tree_by p ls os (Ok b) e h = (b, e)
tree_by p ls os (Err n) e h = absurd (let x = sym (pass_alike ls (top_level (place_of p) ∷ [])) ∙ h in let y = outlines_is p ls n e in let z : Path (Result (List Open) ℕ) (Ok os) (Err n) = sym x ∙ y in cc)

pub has_tree : (p : place.Place) (ls : List Laid) (os : List Open) → pass (map outline_read ls) (top_level (place_of p) ∷ []) ≡ Ok os → (b : Block) × (file_reads p ls ≡ Ok b)
has_tree p ls os h = tree_by p ls os (file_reads p ls) refl h

pub is_refused : (p : place.Place) (ls : List Laid) (n : ℕ) → pass (map outline_read ls) (top_level (place_of p) ∷ []) ≡ Err n → file_reads p ls ≡ Err n
is_refused p ls n h = outlines_as p ls n (sym (pass_alike ls (top_level (place_of p) ∷ [])) ∙ h)

-- the tokens of a line
pub laid_tokens : (bytes : List ℕ) (ts : List found.Token) → (laid (map (seen bytes) ts)).tokens ≡ tokens_seen bytes ts
laid_tokens bytes [] = refl
laid_tokens bytes (t ∷ ts) = without_places bytes (t ∷ ts)
