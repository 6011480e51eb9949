-- What is read as a form of a logical line is spelled so.
use Rattle.std.proofs.Common.{◌≡◌, ℕ, zero, suc, Bool, true, false, List, [], ◌∷◌, Option, Some, None, refl, sym, ap, ◌∙◌, subst, length}
use Rattle.lexer.specs.declared.token.Word.{Word}
use Rattle.lexer.specs.declared.token.Word.TheVariants.{Break, Continue, Def, Elif, Else, For, If, In, Load, Not, Pass, Return}
use Rattle.lexer.specs.declared.token.Mark.TheVariants.{OpenParen, CloseParen, Comma, Colon, Assign, AddAssign}
use Rattle.lexer.specs.declared.layout.Bracket.TheVariants.{Round}
use Rattle.lexer.specs.Tokens.{Token, name, string, word, mark}
use Rattle.grammar.specs.Tree.{Expr, identifier, index}
use Rattle.grammar.specs.Levels.{IsTree}
use Rattle.grammar.specs.Spelling.{spelled, names_spelled}
use Rattle.grammar.specs.Front.{Next, operator, dot_next, index_next, call_next, if_next, assign_next, nothing, next, name_at, keyword_at, names_in, behind_close, behind_comma, behind_colon}
use Rattle.grammar.specs.Reading.{Parse, then_read, Row, whole, row_level, read, if_last}
use Rattle.grammar.specs.Statements.{Listed, followed, AreListed, listed_spelled, Simple, returns_list, IsSimple, simple_spelled, Body, IsBody, body_spelled, optional, IsParam, AreParams, param_spelled, Item, same_name, renamed, item_spelled, Commas, none_more, last_one, and_more, some_more, commas_spelled, Form, simple, defines, if_head, elif_head, else_head, for_head, IsForm, form_spelled, SpellsForm}
use Rattle.grammar.specs.FormReading.{then_found, Lead, no_tokens, leads, no_word, lead, Then, ended, assigned, increased, listing, other, then_at, names_to, string_at, renamed_step, item_at, after_one, commas_step, commas, open_at, assign_to, increase, listed_step, listed, names_step, target_step, simple_word, simple_lead, simple_at, inline_step, body_step, body_at, default_step, param_at, headed, def_at, load_end, load_at, simply, form_word, form_lead, form_at, form_reads}
use Rattle.grammar.proofs.FrontLemmas.{NextSpells, next_sound, NameSpells, name_sound, KeywordSpells, keyword_sound, NamesSpell, names_sound, Behind, close_sound, comma_sound, colon_sound}
use Rattle.grammar.proofs.Sound.{Holds, Found, Sound, read_sound}

-- this holds of what was found, if something was
abbrev pub Holding : {A : Type 0} → (A → Type 0) → Option A → Type 0
Holding P None = Unit {0}
Holding P (Some a) = P a

found_then : {A B : Type 0} (P : A → Type 0) (Q : B → Type 0) (r : Option A) (f : A → Option B) → Holding P r → ((a : A) → P a → Holding Q (f a)) → Holding Q (then_found r f)
found_then P Q None f h g = tt
found_then P Q (Some a) f h g = g a h

read_then : {A B : Type 0} (P : A → List Token → Type 0) (Q : B → Type 0) (r : Option (A × List Token)) (f : A × List Token → Option B) → Holds P r → ((x : A × List Token) → P x.0 x.1 → Holding Q (f x)) → Holding Q (then_found r f)
read_then P Q None f h g = tt
read_then P Q (Some x) f h g = g x h

read_read : {A B : Type 0} (P : A → List Token → Type 0) (Q : B → List Token → Type 0) (r : Option (A × List Token)) (f : A → Parse B) → Holds P r → ((a : A) (u : List Token) → P a u → Holds Q (f a u)) → Holds Q (then_read r f)
read_read P Q None f h g = tt
read_read P Q (Some x) f h g = g x.0 x.1 h

abbrev LeadSpells : Lead → List Token → Type 0
LeadSpells (leads w u) ts = ts ≡ word w ∷ u
LeadSpells _ ts = Unit {0}

lead_sound : (ts : List Token) → LeadSpells (lead ts) ts
unfolding lead
lead_sound [] = tt
lead_sound (word Not ∷ ts) = tt
lead_sound (word w ∷ ts) = refl
lead_sound _ = tt

abbrev ThenSpells : Then → List Token → Type 0
ThenSpells ended ts = ts ≡ []
ThenSpells (assigned u) ts = ts ≡ mark Assign ∷ u
ThenSpells (increased u) ts = ts ≡ mark AddAssign ∷ u
ThenSpells (listing u) ts = ts ≡ mark Comma ∷ u
ThenSpells other ts = Unit {0}

then_sound : (ts : List Token) → ThenSpells (then_at ts) ts
unfolding then_at
then_sound [] = refl
then_sound (mark Assign ∷ ts) = refl
then_sound (mark AddAssign ∷ ts) = refl
then_sound (mark Comma ∷ ts) = refl
then_sound _ = tt

abbrev NamesTo : List Token → List (List ℕ) → List Token → Type 0
NamesTo ts xs u = ts ≡ names_spelled xs (mark Assign ∷ u)

names_turn : (x : List ℕ) (ts : List Token) (r : Option (List (List ℕ) × List Token)) → Holds (NamesTo ts) r → Holds (NamesTo (mark Comma ∷ name x ∷ ts)) (elim r [ None ↦ None | Some r ↦ Some (x ∷ r.0, r.1) ])
names_turn x ts None h = tt
names_turn x ts (Some r) h = ap (λ v. mark Comma ∷ name x ∷ v) h

names_to_sound : (ts : List Token) → Holds (NamesTo ts) (names_to ts)
unfolding names_to
names_to_sound (mark Comma ∷ name x ∷ ts) = names_turn x ts (names_to ts) (names_to_sound ts)
names_to_sound (mark Assign ∷ ts) = refl
names_to_sound _ = tt

abbrev StringAt : List Token → List ℕ → List Token → Type 0
StringAt ts s u = ts ≡ string s ∷ u

string_sound : (ts : List Token) → Holds (StringAt ts) (string_at ts)
unfolding string_at
string_sound (string s ∷ ts) = refl
string_sound _ = tt

abbrev NameAt : List Token → List ℕ → List Token → Type 0
NameAt ts x u = ts ≡ name x ∷ u

name_holds : (ts : List Token) (r : Option (List ℕ × List Token)) → NameSpells r ts → Holds (NameAt ts) r
name_holds ts None h = tt
name_holds ts (Some r) h = h

abbrev NamesIn : List Token → List (List ℕ) → List Token → Type 0
NamesIn ts xs u = ts ≡ names_spelled xs (word In ∷ u)

names_holds : (ts : List Token) (r : Option (List (List ℕ) × List Token)) → NamesSpell r ts → Holds (NamesIn ts) r
names_holds ts None h = tt
names_holds ts (Some r) h = h

behind_holds : (t : Token) (ts : List Token) (r : Option (List Token)) → Behind t r ts → Holding (λ u. ts ≡ t ∷ u) r
behind_holds t ts None h = tt
behind_holds t ts (Some u) h = h

open_sound : (ts : List Token) (r : Next) → NextSpells r ts → Holding (λ u. ts ≡ mark OpenParen ∷ u) (open_at r)
open_sound ts (call_next u) e = e
open_sound ts (operator o u) e = tt
open_sound ts (dot_next u) e = tt
open_sound ts (index_next u) e = tt
open_sound ts (if_next u) e = tt
open_sound ts (assign_next u) e = tt
open_sound ts nothing e = tt

-- what a `load` binds
abbrev ItemFound : List Token → Item → List Token → Type 0
ItemFound ts i u = ts ≡ item_spelled i u

item_turn : (ts : List Token) (r : Option (List ℕ × List Token)) → KeywordSpells r ts → Holds (ItemFound ts) (renamed_step ts r)
item_turn ts None e = read_read (StringAt ts) (ItemFound ts) (string_at ts) (λ s u. Some (same_name s, u)) (string_sound ts) (λ s u h. h)
item_turn ts (Some r) e = read_read (StringAt r.1) (ItemFound ts) (string_at r.1) (λ s u. Some (renamed r.0 s, u)) (string_sound r.1) (λ s u h. e ∙ ap (λ z. name r.0 ∷ mark Assign ∷ z) h)

record CommasFound {A : Type 0} (spell : A → List Token → List Token) (AreAll : Commas A → Type 0) (ts : List Token) (l : Commas A) (rest : List Token) : Type 0 where
  are_all : AreAll l
  spells : ts ≡ commas_spelled spell l (mark CloseParen ∷ rest)

-- things with commas, where what reads each of them is sound
module _ {A : Type 0} (spell : A → List Token → List Token) (Is : A → Type 0) (AreAll : Commas A → Type 0) (one : Parse A)
    (each : (ts : List Token) → Holds (λ a u. Is a × (ts ≡ spell a u)) (one ts)) (none : AreAll none_more) (only : (a : A) → Is a → AreAll (last_one a)) (more_are : (a : A) (l : Commas A) → Is a → AreAll l → AreAll (and_more a l)) where
  after_sound : (more : Parse (Commas A)) → ((ts : List Token) → Holds (CommasFound spell AreAll ts) (more ts)) → (ts u : List Token) (a : A) → Is a → ts ≡ spell a u → (r c : Option (List Token)) → Behind (mark CloseParen) r u → Behind (mark Comma) c u → Holds (CommasFound spell AreAll ts) (after_one more a r c)
  after_sound more hm ts u a h e (Some v) c d f = record { are_all = only a h; spells = e ∙ ap (spell a) d }
  after_sound more hm ts u a h e None None d f = tt
  after_sound more hm ts u a h e None (Some v) d f =
      read_read (CommasFound spell AreAll v) (CommasFound spell AreAll ts) (more v) (λ l w. Some (and_more a l, w)) (hm v) (λ l w g.
      record { are_all = more_are a l h g.are_all; spells = e ∙ ap (spell a) (f ∙ ap (λ z. mark Comma ∷ z) g.spells) })

  commas_turn : (more : Parse (Commas A)) → ((ts : List Token) → Holds (CommasFound spell AreAll ts) (more ts)) → (ts : List Token) (r : Option (List Token)) → Behind (mark CloseParen) r ts → Holds (CommasFound spell AreAll ts) (commas_step more one ts r)
  commas_turn more hm ts (Some u) e = record { are_all = none; spells = e }
  commas_turn more hm ts None e =
      read_read (λ a u. Is a × (ts ≡ spell a u)) (CommasFound spell AreAll ts) (one ts) (λ a u. after_one more a (behind_close Round u) (behind_comma u)) (each ts)
      (λ a u h. after_sound more hm ts u a h.0 h.1 (behind_close Round u) (behind_comma u) (close_sound Round u) (comma_sound u))

  commas_sound : (k : ℕ) (ts : List Token) → Holds (CommasFound spell AreAll ts) (commas one k ts)
  unfolding commas
  commas_sound zero ts = tt
  commas_sound (suc k) ts = commas_turn (commas one k) (commas_sound k) ts (behind_close Round ts) (close_sound Round ts)

item_each : (ts : List Token) → Holds (λ i u. Unit {0} × (ts ≡ item_spelled i u)) (item_at ts)
item_each ts = go (item_at ts) (item_turn ts (keyword_at ts) (keyword_sound ts))
  where
    go : (r : Option (Item × List Token)) → Holds (ItemFound ts) r → Holds (λ i u. Unit {0} × (ts ≡ item_spelled i u)) r
    go None h = tt
    go (Some r) h = (tt, h)

record ListedFound (ts : List Token) (l : Listed) : Type 0 where
  are_listed : AreListed l
  spells : ts ≡ listed_spelled l

record SimpleFound (ts : List Token) (s : Simple) : Type 0 where
  is_simple : IsSimple s
  spells : ts ≡ simple_spelled s

record BodyFound (ts : List Token) (b : Body) : Type 0 where
  is_body : IsBody b
  spells : ts ≡ body_spelled b

record LastFound (ts : List Token) (a : Expr) : Type 0 where
  is_tree : IsTree a
  spells : ts ≡ spelled a []

last_found : (ts : List Token) (r : Option (Expr × List Token)) → Holds (Found 1 ts) r → Holding (LastFound ts) (if_last r)
last_found ts None h = tt
last_found ts (Some (a, [])) h = record { is_tree = h.is_tree; spells = h.spells }
last_found ts (Some (a, u ∷ us)) h = tt

assign_sound : (ts : List Token) (e : Expr) (xs : List (List ℕ)) (l : Listed) → IsTree e → AreListed l → ts ≡ spelled e (names_spelled xs (mark Assign ∷ listed_spelled l)) → Holding (SimpleFound ts) (assign_to e xs l)
assign_sound ts (identifier x) xs l h g e = record { is_simple = g; spells = e }
assign_sound ts (index f a) [] l h g e = record { is_simple = (h, g); spells = e }
assign_sound ts _ _ l h g e = tt

increase_sound : (ts : List Token) (e b : Expr) → IsTree e → IsTree b → ts ≡ spelled e (mark AddAssign ∷ spelled b []) → Holding (SimpleFound ts) (increase e b)
increase_sound ts (identifier x) b h g e = record { is_simple = g; spells = e }
increase_sound ts (index f a) b h g e = record { is_simple = (h, g); spells = e }
increase_sound ts _ b h g e = tt

module _ (inside : Row → Parse Expr) (most : ℕ) (sound : (r : Row) → Sound (row_level r) (inside r)) where
  listed_turn : (more : List Token → Option Listed) → ((ts : List Token) → Holding (ListedFound ts) (more ts)) → (ts u : List Token) (a : Expr) → Found 1 ts a u → (r : Then) → ThenSpells r u → Holding (ListedFound ts) (listed_step inside most more a r)
  listed_turn more hm ts u a f ended e = record { are_listed = f.is_tree; spells = f.spells ∙ ap (spelled a) e }
  listed_turn more hm ts u a f (listing v) e =
      found_then (ListedFound v) (ListedFound ts) (more v) (λ l. Some (followed a l)) (hm v) (λ l g.
      record { are_listed = (f.is_tree, g.are_listed); spells = f.spells ∙ ap (spelled a) (e ∙ ap (λ z. mark Comma ∷ z) g.spells) })
  listed_turn more hm ts u a f (assigned v) e = tt
  listed_turn more hm ts u a f (increased v) e = tt
  listed_turn more hm ts u a f other e = tt

  listed_sound : (k : ℕ) (ts : List Token) → Holding (ListedFound ts) (listed inside most k ts)
  unfolding listed
  listed_sound zero ts = tt
  listed_sound (suc k) ts =
      read_then (Found 1 ts) (ListedFound ts) (inside whole ts) (λ r. listed_step inside most (listed inside most k) r.0 (then_at r.1)) (sound whole ts)
      (λ r f. listed_turn (listed inside most k) (listed_sound k) ts r.1 r.0 f (then_at r.1) (then_sound r.1))

  names_found : (ts u : List Token) (a : Expr) → Found 1 ts a u → (r : Option (List (List ℕ) × List Token)) → Holds (NamesTo u) r → Holding (SimpleFound ts) (names_step inside most a r)
  names_found ts u a f None e = tt
  names_found ts u a f (Some r) e =
      found_then (ListedFound r.1) (SimpleFound ts) (listed inside most most r.1) (assign_to a r.0) (listed_sound most r.1) (λ l g.
      assign_sound ts a r.0 l f.is_tree g.are_listed (f.spells ∙ ap (spelled a) (e ∙ ap (λ z. names_spelled r.0 (mark Assign ∷ z)) g.spells)))

  target_sound : (ts u : List Token) (a : Expr) → Found 1 ts a u → (r : Then) → ThenSpells r u → Holding (SimpleFound ts) (target_step inside most a u r)
  target_sound ts u a f ended e = record { is_simple = f.is_tree; spells = f.spells ∙ ap (spelled a) e }
  target_sound ts u a f (assigned v) e = names_found ts u a f (Some ([], v)) e
  target_sound ts u a f (increased v) e =
      found_then (LastFound v) (SimpleFound ts) (if_last (inside whole v)) (increase a) (last_found v (inside whole v) (sound whole v)) (λ b g.
      increase_sound ts a b f.is_tree g.is_tree (f.spells ∙ ap (spelled a) (e ∙ ap (λ z. mark AddAssign ∷ z) g.spells)))
  target_sound ts u a f (listing v) e = names_found ts u a f (names_to u) (names_to_sound u)
  target_sound ts u a f other e = tt

  word_sound : (w : Word) (u : List Token) → Holding (SimpleFound (word w ∷ u)) (simple_word inside most w u)
  word_sound Pass [] = record { is_simple = tt; spells = refl }
  word_sound Break [] = record { is_simple = tt; spells = refl }
  word_sound Continue [] = record { is_simple = tt; spells = refl }
  word_sound Return [] = record { is_simple = tt; spells = refl }
  word_sound Return (t ∷ ts) =
      found_then (ListedFound (t ∷ ts)) (SimpleFound (word Return ∷ t ∷ ts)) (listed inside most most (t ∷ ts)) (λ l. Some (returns_list l)) (listed_sound most (t ∷ ts)) (λ l g.
      record { is_simple = g.are_listed; spells = ap (λ z. word Return ∷ z) g.spells })
  word_sound _ _ = tt

  simple_turn : (ts : List Token) (r : Lead) → LeadSpells r ts → Holding (SimpleFound ts) (simple_lead inside most ts r)
  simple_turn ts no_tokens e = tt
  simple_turn ts (leads w u) e = subst (λ z. Holding (SimpleFound z) (simple_word inside most w u)) (sym e) (word_sound w u)
  simple_turn ts no_word e =
      read_then (Found 1 ts) (SimpleFound ts) (inside whole ts) (λ r. target_step inside most r.0 r.1 (then_at r.1)) (sound whole ts) (λ r f. target_sound ts r.1 r.0 f (then_at r.1) (then_sound r.1))

  simple_sound : (ts : List Token) → Holding (SimpleFound ts) (simple_at inside most ts)
  unfolding simple_at
  simple_sound ts = simple_turn ts (lead ts) (lead_sound ts)

  inline_sound : (ts u : List Token) → ts ≡ mark Colon ∷ u → (r : Option Simple) → Holding (SimpleFound u) r → Holding (BodyFound ts) (inline_step inside most u r)
  inline_sound ts u e (Some s) h = record { is_body = h.is_simple; spells = e ∙ ap (λ z. mark Colon ∷ z) h.spells }
  inline_sound ts [] e None h = record { is_body = tt; spells = e }
  inline_sound ts (t ∷ u) e None h = tt

  body_turn : (ts : List Token) (r : Option (List Token)) → Behind (mark Colon) r ts → Holding (BodyFound ts) (body_step inside most r)
  body_turn ts None e = tt
  body_turn ts (Some u) e = inline_sound ts u e (simple_at inside most u) (simple_sound u)

  body_sound : (ts : List Token) → Holding (BodyFound ts) (body_at inside most ts)
  body_sound ts = body_turn ts (behind_colon ts) (colon_sound ts)

  -- a parameter
  default_sound : (ts u : List Token) (x : List ℕ) → ts ≡ name x ∷ u → (r : Next) → NextSpells r u → Holds (λ p v. IsParam p × (ts ≡ param_spelled p v)) (default_step inside most x u r)
  default_sound ts u x e (assign_next v) d =
      read_read (Found 1 v) (λ p w. IsParam p × (ts ≡ param_spelled p w)) (inside whole v) (λ a w. Some (optional x a, w)) (sound whole v) (λ a w f.
      (f.is_tree, e ∙ ap (λ z. name x ∷ z) (d ∙ ap (λ z. mark Assign ∷ z) f.spells)))
  default_sound ts u x e (operator o v) d = (tt, e)
  default_sound ts u x e (dot_next v) d = (tt, e)
  default_sound ts u x e (index_next v) d = (tt, e)
  default_sound ts u x e (call_next v) d = (tt, e)
  default_sound ts u x e (if_next v) d = (tt, e)
  default_sound ts u x e nothing d = (tt, e)

  param_sound : (ts : List Token) → Holds (λ p v. IsParam p × (ts ≡ param_spelled p v)) (param_at inside most ts)
  param_sound ts = read_read (NameAt ts) (λ p v. IsParam p × (ts ≡ param_spelled p v)) (name_at ts) (λ x u. default_step inside most x u (next u)) (name_holds ts (name_at ts) (name_sound ts)) (λ x u e. default_sound ts u x e (next u) (next_sound u))

  params_sound : (k : ℕ) (ts : List Token) → Holds (CommasFound param_spelled AreParams ts) (commas (param_at inside most) k ts)
  params_sound k ts = commas_sound param_spelled IsParam AreParams (param_at inside most) param_sound tt (λ p h. h) (λ p l h g. (h, g)) k ts

  items_sound : (k : ℕ) (ts : List Token) → Holds (CommasFound item_spelled (λ _. Unit {0}) ts) (commas item_at k ts)
  items_sound k ts = commas_sound item_spelled (λ _. Unit {0}) (λ _. Unit {0}) item_at item_each tt (λ i h. h) (λ i l h g. tt) k ts

  -- a head, behind its first tokens
  headed_sound : (make : Expr → Body → Form) (before : List Token → List Token) → ((a : Expr) (b : Body) → IsTree a → IsBody b → IsForm (make a b)) → ((a : Expr) (b : Body) → form_spelled (make a b) ≡ before (spelled a (body_spelled b))) → (ts u : List Token) → ts ≡ before u → Holding (SpellsForm ts) (headed inside most make u)
  headed_sound make before is says ts u e =
      read_then (Found 1 u) (SpellsForm ts) (inside whole u) (λ r. then_found (body_at inside most r.1) (λ b. Some (make r.0 b))) (sound whole u) (λ r f.
      found_then (BodyFound r.1) (SpellsForm ts) (body_at inside most r.1) (λ b. Some (make r.0 b)) (body_sound r.1) (λ b g.
      record { is_form = is r.0 b f.is_tree g.is_body; whole = e ∙ ap before (f.spells ∙ ap (spelled r.0) g.spells) ∙ sym (says r.0 b) }))

  simply_sound : (ts : List Token) → Holding (SpellsForm ts) (simply inside most ts)
  simply_sound ts = found_then (SimpleFound ts) (SpellsForm ts) (simple_at inside most ts) (λ s. Some (simple s)) (simple_sound ts) (λ s g. record { is_form = g.is_simple; whole = g.spells })

  def_sound : (ts u : List Token) → ts ≡ word Def ∷ u → Holding (SpellsForm ts) (def_at inside most u)
  def_sound ts u e =
      read_then (NameAt u) (SpellsForm ts) (name_at u) (λ r. then_found (open_at (next r.1)) (λ u. then_found (commas (param_at inside most) most u) (λ ps. then_found (body_at inside most ps.1) (λ b. Some (defines r.0 ps.0 b))))) (name_holds u (name_at u) (name_sound u)) (λ r d.
      found_then (λ v. r.1 ≡ mark OpenParen ∷ v) (SpellsForm ts) (open_at (next r.1)) (λ u. then_found (commas (param_at inside most) most u) (λ ps. then_found (body_at inside most ps.1) (λ b. Some (defines r.0 ps.0 b)))) (open_sound r.1 (next r.1) (next_sound r.1)) (λ v o.
      read_then (CommasFound param_spelled AreParams v) (SpellsForm ts) (commas (param_at inside most) most v) (λ ps. then_found (body_at inside most ps.1) (λ b. Some (defines r.0 ps.0 b))) (params_sound most v) (λ ps p.
      found_then (BodyFound ps.1) (SpellsForm ts) (body_at inside most ps.1) (λ b. Some (defines r.0 ps.0 b)) (body_sound ps.1) (λ b g.
      record { is_form = (p.are_all, g.is_body); whole = e ∙ ap (λ z. word Def ∷ z) (d ∙ ap (λ z. name r.0 ∷ z) (o ∙ ap (λ z. mark OpenParen ∷ z) (p.spells ∙ ap (λ z. commas_spelled param_spelled ps.0 (mark CloseParen ∷ z)) g.spells))) }))))

  end_sound : (ts : List Token) (s : List ℕ) (l : Commas Item) (u : List Token) (r : Bool) → some_more l ≡ r → ts ≡ word Load ∷ mark OpenParen ∷ string s ∷ mark Comma ∷ commas_spelled item_spelled l (mark CloseParen ∷ u) → Holding (SpellsForm ts) (load_end inside most s l u r)
  end_sound ts s l [] true e d = record { is_form = e; whole = d }
  end_sound ts s l [] false e d = tt
  end_sound ts s l (t ∷ u) r e d = tt

  load_sound : (ts u : List Token) → ts ≡ word Load ∷ u → Holding (SpellsForm ts) (load_at inside most u)
  load_sound ts u e =
      found_then (λ v. u ≡ mark OpenParen ∷ v) (SpellsForm ts) (open_at (next u)) (λ u. then_found (string_at u) (λ s. then_found (behind_comma s.1) (λ v. then_found (commas item_at most v) (λ l. load_end inside most s.0 l.0 l.1 (some_more l.0))))) (open_sound u (next u) (next_sound u)) (λ v o.
      read_then (StringAt v) (SpellsForm ts) (string_at v) (λ s. then_found (behind_comma s.1) (λ v. then_found (commas item_at most v) (λ l. load_end inside most s.0 l.0 l.1 (some_more l.0)))) (string_sound v) (λ s d.
      found_then (λ w. s.1 ≡ mark Comma ∷ w) (SpellsForm ts) (behind_comma s.1) (λ v. then_found (commas item_at most v) (λ l. load_end inside most s.0 l.0 l.1 (some_more l.0))) (behind_holds (mark Comma) s.1 (behind_comma s.1) (comma_sound s.1)) (λ w c.
      read_then (CommasFound item_spelled (λ _. Unit {0}) w) (SpellsForm ts) (commas item_at most w) (λ l. load_end inside most s.0 l.0 l.1 (some_more l.0)) (items_sound most w) (λ l p.
      end_sound ts s.0 l.0 l.1 (some_more l.0) refl (e ∙ ap (λ z. word Load ∷ z) (o ∙ ap (λ z. mark OpenParen ∷ z) (d ∙ ap (λ z. string s.0 ∷ z) (c ∙ ap (λ z. mark Comma ∷ z) p.spells))))))))

  for_sound : (ts u : List Token) → ts ≡ word For ∷ u → Holding (SpellsForm ts) (then_found (name_at u) (λ r. then_found (names_in r.1) (λ s. headed inside most (for_head r.0 s.0) s.1)))
  for_sound ts u e =
      read_then (NameAt u) (SpellsForm ts) (name_at u) (λ r. then_found (names_in r.1) (λ s. headed inside most (for_head r.0 s.0) s.1)) (name_holds u (name_at u) (name_sound u)) (λ r d.
      read_then (NamesIn r.1) (SpellsForm ts) (names_in r.1) (λ s. headed inside most (for_head r.0 s.0) s.1) (names_holds r.1 (names_in r.1) (names_sound r.1)) (λ s c.
      headed_sound (for_head r.0 s.0) (λ z. word For ∷ name r.0 ∷ names_spelled s.0 (word In ∷ z)) (λ a b h g. (h, g)) (λ a b. refl) ts s.1 (e ∙ ap (λ z. word For ∷ z) (d ∙ ap (λ z. name r.0 ∷ z) c))))

  else_sound : (ts u : List Token) → ts ≡ word Else ∷ u → Holding (SpellsForm ts) (then_found (body_at inside most u) (λ b. Some (else_head b)))
  else_sound ts u e = found_then (BodyFound u) (SpellsForm ts) (body_at inside most u) (λ b. Some (else_head b)) (body_sound u) (λ b g. record { is_form = g.is_body; whole = e ∙ ap (λ z. word Else ∷ z) g.spells })

  form_turn : (ts : List Token) (w : Word) (u : List Token) → ts ≡ word w ∷ u → Holding (SpellsForm ts) (form_word inside most ts w u)
  form_turn ts Load u e = load_sound ts u e
  form_turn ts Def u e = def_sound ts u e
  form_turn ts If u e = headed_sound if_head (λ z. word If ∷ z) (λ a b h g. (h, g)) (λ a b. refl) ts u e
  form_turn ts Elif u e = headed_sound elif_head (λ z. word Elif ∷ z) (λ a b h g. (h, g)) (λ a b. refl) ts u e
  form_turn ts Else u e = else_sound ts u e
  form_turn ts For u e = for_sound ts u e
  form_turn ts _ u e = simply_sound ts

  lead_turn : (ts : List Token) (r : Lead) → LeadSpells r ts → Holding (SpellsForm ts) (form_lead inside most ts r)
  lead_turn ts no_tokens e = tt
  lead_turn ts (leads w u) e = form_turn ts w u e
  lead_turn ts no_word e = simply_sound ts

  form_sound : (ts : List Token) → Holding (SpellsForm ts) (form_at inside most ts)
  unfolding form_at
  form_sound ts = lead_turn ts (lead ts) (lead_sound ts)

-- what is read is the form of the tokens
pub form_is : (ts : List Token) (f : Form) → form_reads ts ≡ Some f → SpellsForm ts f
form_is ts f e = subst (Holding (SpellsForm ts)) e (form_sound (read (suc (length ts))) (suc (length ts)) (read_sound (suc (length ts))) ts)
