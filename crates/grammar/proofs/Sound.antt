-- What is read is spelled so.
use Rattle.std.proofs.Common.{◌≡◌, ℕ, zero, suc, ◌≤◌, Bool, true, false, List, [], ◌∷◌, Option, Some, None, refl, sym, ap, ◌∙◌, subst, arith, length}
use Rattle.std.specs.Prelude.{◌==◌, ◌&&◌}
use Rattle.std.proofs.lemmas.Bool.{eqb-true}
use Rattle.lexer.specs.declared.token.Mark.TheVariants.{OpenParen, OpenBracket, CloseBracket, Comma, Colon, Dot, Assign}
use Rattle.lexer.specs.declared.token.Mark.{Mark}
use Rattle.lexer.specs.declared.token.Word.TheVariants.{Else, For, If, In}
use Rattle.lexer.specs.declared.layout.Bracket.{Bracket}
use Rattle.lexer.specs.declared.layout.Bracket.TheVariants.{Round, Square}
use Rattle.lexer.specs.Layout.{opening}
use Rattle.lexer.specs.Tokens.{Token, name, number, string, word, mark}
use Rattle.grammar.specs.Tree.{Operator, Sign, negation, opposite, Expr, display, comprehension, conditional, operation, signed, field, index, call, Member, plain, keyword, entry, Members, next_member, Clauses, no_clauses, for_clause, if_clause}
use Rattle.grammar.specs.Levels.{operator_level, left_level, sign_level, level, Held, items, entries, arguments, held, allowed, in_order, may_comprehend, starts_with_for, IsTree, IsMember, AreMembers, AreClauses}
use Rattle.grammar.specs.Spelling.{operator_spelled, sign_token, open_mark, close_mark, names_spelled, spelled, member_spelled, members_spelled, clauses_spelled, Spells}
use Rattle.grammar.specs.Front.{Next, operator, dot_next, index_next, call_next, if_next, assign_next, nothing, next, sign_at, name_at, keyword_at, behind_close, behind_comma, behind_colon, behind_else, is_for, Head, for_head, if_head, no_head, head_at}
use Rattle.grammar.specs.Reading.{Parse, then_read, at_close, shut, join_step, chain_step, chain, chained, Row, whole, operand, negated, opposed, row_level, sign_row, value_step, plain_member, argument_step, member, after_member, members_step, members, clauses_step, clauses, first_step, display_step, open_step, atom, call_step, suffix_step, suffixes, taken_step, prefix_step, prefix, e9, e8, e7, e6, e5, e4, e3, e2, else_step, if_step, e1, read, if_last, reads}
use Rattle.grammar.proofs.FrontLemmas.{NextSpells, next_sound, SignSpells, sign_sound, NameSpells, name_sound, KeywordSpells, keyword_sound, Behind, close_sound, comma_sound, colon_sound, else_sound, HeadSpells, head_sound, opening_sound}
use Rattle.grammar.proofs.Sizes.{left_comparison, left_own}

-- this holds of what was read and of the tokens left, if something was read
abbrev pub Holds : {A : Type 0} → (A → List Token → Type 0) → Option (A × List Token) → Type 0
Holds P None = Unit {0}
Holds P (Some r) = P r.0 r.1

then_holds : {A B : Type 0} (P : A → List Token → Type 0) (Q : B → List Token → Type 0) (r : Option (A × List Token)) (f : A → Parse B) → Holds P r → ((a : A) (u : List Token) → P a u → Holds Q (f a u)) → Holds Q (then_read r f)
then_holds P Q None f h g = tt
then_holds P Q (Some r) f h g = g r.0 r.1 h

-- an expression of at least this level was read from the front of tokens
pub record Found (l : ℕ) (ts : List Token) (t : Expr) (rest : List Token) : Type 0 where
  pub is_tree : IsTree t
  pub high : l ≤ level t
  pub spells : ts ≡ spelled t rest

record MemberFound (h : Held) (ts : List Token) (m : Member) (rest : List Token) : Type 0 where
  allows : allowed h m ≡ true
  is_member : IsMember m
  spells : ts ≡ member_spelled m rest

record MembersFound (h : Held) (b : Bracket) (ts : List Token) (ms : Members) (rest : List Token) : Type 0 where
  are_members : AreMembers h ms
  spells : ts ≡ members_spelled ms (mark (close_mark b) ∷ rest)

record ClausesFound (ts : List Token) (cs : Clauses) (rest : List Token) : Type 0 where
  are_clauses : AreClauses cs
  spells : ts ≡ clauses_spelled cs rest

abbrev pub Sound : ℕ → Parse Expr → Type 0
Sound l p = (ts : List Token) → Holds (Found l ts) (p ts)

-- what goes on from an expression that was read keeps its tokens
abbrev Goes : ℕ → (Expr → Parse Expr) → Type 0
Goes l p = (f : Expr) (ts : List Token) → IsTree f → l ≤ level f → Holds (Found l (spelled f ts)) (p f ts)

respelled : (l : ℕ) (ts us : List Token) (r : Option (Expr × List Token)) → ts ≡ us → Holds (Found l us) r → Holds (Found l ts) r
respelled l ts us r e h = subst (λ v. Holds (Found l v) r) (sym e) h

stays : (l : ℕ) (f : Expr) (ts : List Token) → IsTree f → l ≤ level f → Found l (spelled f ts) f ts
stays l f ts h le = record { is_tree = h; high = le; spells = refl }

weaker : (l m : ℕ) (ts : List Token) (r : Option (Expr × List Token)) → l ≤ m → Holds (Found m ts) r → Holds (Found l ts) r
weaker l m ts None le h = tt
weaker l m ts (Some r) le h = record { is_tree = h.is_tree; high = let k = h.high in Prim.omega (arith, le, k); spells = h.spells }

lower : (l : ℕ) (p : Parse Expr) → Sound (suc l) p → Sound l p
lower l p h ts = weaker l (suc l) ts (p ts) (Prim.omega arith) (h ts)

-- one part, and what goes on from it
then_goes : (l : ℕ) (p : Parse Expr) (q : Expr → Parse Expr) → Sound l p → Goes l q → Sound l (λ ts. then_read (p ts) q)
then_goes l p q hp hq ts = then_holds (Found l ts) (Found l ts) (p ts) q (hp ts) (λ f u g. respelled l ts (spelled f u) (q f u) g.spells (hq f u g.is_tree g.high))

-- one turn of a loop over operators
turn_sound : (l : ℕ) (up : Parse Expr) (more : Expr → Parse Expr) → Sound (suc l) up → Goes l more → (a : Expr) (ts : List Token) → IsTree a → l ≤ level a → ((o : Operator) → operator_level o ≡ l → left_level o ≤ level a) → (r : Next) → NextSpells r ts → Holds (Found l (spelled a ts)) (chain_step l up more a ts r)
turn_sound l up more hup hmore a ts h le left (operator o u) e = go (operator_level o == l) refl
  where
    go : (r : Bool) → (operator_level o == l) ≡ r → Holds (Found l (spelled a ts)) (join_step up more o a u ts r)
    go false d = stays l a ts h le
    go true d =
        let at = eqb-true (operator_level o) l d in
        then_holds (Found (suc l) u) (Found l (spelled a ts)) (up u) (λ b. more (operation o a b)) (hup u) (λ b v g.
        respelled l (spelled a ts) (spelled (operation o a b) v) (more (operation o a b) v) (ap (spelled a) (e ∙ ap (operator_spelled o) g.spells))
        (hmore (operation o a b) v (left o at, h, (let k = g.high in Prim.omega (arith, k, at)), g.is_tree) (Prim.omega (arith, at))))
turn_sound l up more hup hmore a ts h le left (dot_next u) e = stays l a ts h le
turn_sound l up more hup hmore a ts h le left (index_next u) e = stays l a ts h le
turn_sound l up more hup hmore a ts h le left (call_next u) e = stays l a ts h le
turn_sound l up more hup hmore a ts h le left (if_next u) e = stays l a ts h le
turn_sound l up more hup hmore a ts h le left (assign_next u) e = stays l a ts h le
turn_sound l up more hup hmore a ts h le left nothing e = stays l a ts h le

-- a loop over operators that may be chained
chain_sound : (l : ℕ) (up : Parse Expr) → Sound (suc l) up → ((o : Operator) → operator_level o ≡ l → left_level o ≤ l) → (k : ℕ) → Goes l (chain l up k)
unfolding chain
chain_sound l up hup left zero a ts h le = stays l a ts h le
chain_sound l up hup left (suc k) a ts h le =
    turn_sound l up (chain l up k) hup (chain_sound l up hup left k) a ts h le (λ o e. let d = left o e in Prim.omega (arith, d, le)) (next ts) (next_sound ts)

-- a comparison, which may not
once_sound : (up : Parse Expr) → Sound 6 up → (a : Expr) (ts : List Token) → IsTree a → 6 ≤ level a → Holds (Found 5 (spelled a ts)) (chain 5 up 1 a ts)
unfolding chain
once_sound up hup a ts h le =
    turn_sound 5 up (chain 5 up 0) hup (λ f us g high. stays 5 f us g high) a ts h (Prim.omega (arith, le)) (λ o e. let d = left_comparison o e in Prim.omega (arith, d, le)) (next ts) (next_sound ts)

chained_sound : (l : ℕ) (up : Parse Expr) (most : ℕ) → Sound (suc l) up → ((o : Operator) → operator_level o ≡ l → left_level o ≤ l) → Sound l (chained l up most)
chained_sound l up most hup left = then_goes l up (chain l up most) (lower l up hup) (chain_sound l up hup left most)

both_true : (a b : Bool) → (a && b) ≡ true → (a ≡ true) × (b ≡ true)
both_true true true e = (refl, refl)
both_true true false e = Prim.cc
both_true false b e = Prim.cc

-- clauses that were read where a `for` stood begin with it
for_starts : (cs : Clauses) (b : Bracket) (ts : List Token) → is_for (clauses_spelled cs (mark (close_mark b) ∷ ts)) ≡ true → starts_with_for cs ≡ true
unfolding is_for
for_starts no_clauses b ts e = Prim.cc
for_starts (if_clause a cs) b ts e = Prim.cc
for_starts (for_clause x xs a cs) b ts e = refl

-- operators that may be chained take their own level on the left
left_chained : (o : Operator) (l : ℕ) → operator_level o ≡ l → (l ≡ 5 → ⊥) → left_level o ≤ l
left_chained o l e ne = let h = left_own o (λ d. ne (sym e ∙ d)) in Prim.omega (arith, h, e)

some_same : {A : Type 0} {a b : A} → Path (Option A) (Some a) (Some b) → a ≡ b
some_same e = Prim.grind arith

sign_rows : (s : Sign) → row_level (sign_row s) ≡ sign_level s
sign_rows negation = refl
sign_rows opposite = refl

module _ (inside : Row → Parse Expr) (most : ℕ) (sound : (r : Row) → Sound (row_level r) (inside r)) where
  plain_sound : (h : Held) → ((a : Expr) → allowed h (plain a) ≡ true) → (ts : List Token) → Holds (MemberFound h ts) (plain_member inside most ts)
  plain_sound h ok ts = then_holds (Found 1 ts) (MemberFound h ts) (inside whole ts) (λ a u. Some (plain a, u)) (sound whole ts) (λ a u f. record { allows = ok a; is_member = f.is_tree; spells = f.spells })

  value_sound : (ts u : List Token) (k : Expr) → Found 1 ts k u → (r : Option (List Token)) → Behind (mark Colon) r u → Holds (MemberFound entries ts) (value_step inside most k r)
  value_sound ts u k f None e = tt
  value_sound ts u k f (Some v) e =
      then_holds (Found 1 v) (MemberFound entries ts) (inside whole v) (λ a w. Some (entry k a, w)) (sound whole v) (λ a w g.
      record { allows = refl; is_member = (f.is_tree, g.is_tree); spells = f.spells ∙ ap (spelled k) (e ∙ ap (λ z. mark Colon ∷ z) g.spells) })

  argument_sound : (ts : List Token) (r : Option (List ℕ × List Token)) → KeywordSpells r ts → Holds (MemberFound arguments ts) (argument_step inside most ts r)
  argument_sound ts None e = plain_sound arguments (λ a. refl) ts
  argument_sound ts (Some r) e =
      then_holds (Found 1 r.1) (MemberFound arguments ts) (inside whole r.1) (λ a u. Some (keyword r.0 a, u)) (sound whole r.1) (λ a u g.
      record { allows = refl; is_member = g.is_tree; spells = e ∙ ap (λ z. name r.0 ∷ mark Assign ∷ z) g.spells })

  member_sound : (h : Held) (ts : List Token) → Holds (MemberFound h ts) (member inside most h ts)
  unfolding member
  member_sound items ts = plain_sound items (λ a. refl) ts
  member_sound entries ts = then_holds (Found 1 ts) (MemberFound entries ts) (inside whole ts) (λ k u. value_step inside most k (behind_colon u)) (sound whole ts) (λ k u f. value_sound ts u k f (behind_colon u) (colon_sound u))
  member_sound arguments ts = argument_sound ts (keyword_at ts) (keyword_sound ts)

  after_sound : (h : Held) (b : Bracket) (more : Parse Members) → ((ts : List Token) → Holds (MembersFound h b ts) (more ts)) → (ts u : List Token) (m : Member) → MemberFound h ts m u → (r c : Option (List Token)) → Behind (mark (close_mark b)) r u → Behind (mark Comma) c u → Holds (MembersFound h b ts) (after_member inside most more m r c)
  after_sound h b more hm ts u m f (Some v) c e d = record { are_members = (f.allows, f.is_member); spells = f.spells ∙ ap (member_spelled m) e }
  after_sound h b more hm ts u m f None None e d = tt
  after_sound h b more hm ts u m f None (Some v) e d =
      then_holds (MembersFound h b v) (MembersFound h b ts) (more v) (λ ms w. Some (next_member m ms, w)) (hm v) (λ ms w g.
      record { are_members = (f.allows, f.is_member, g.are_members); spells = f.spells ∙ ap (member_spelled m) (d ∙ ap (λ z. mark Comma ∷ z) g.spells) })

  members_turn : (h : Held) (b : Bracket) (more : Parse Members) → ((ts : List Token) → Holds (MembersFound h b ts) (more ts)) → (ts : List Token) (r : Option (List Token)) → Behind (mark (close_mark b)) r ts → Holds (MembersFound h b ts) (members_step inside most more h b ts r)
  members_turn h b more hm ts (Some u) e = record { are_members = tt; spells = e }
  members_turn h b more hm ts None e =
      then_holds (MemberFound h ts) (MembersFound h b ts) (member inside most h ts) (λ m u. after_member inside most more m (behind_close b u) (behind_comma u)) (member_sound h ts)
      (λ m u f. after_sound h b more hm ts u m f (behind_close b u) (behind_comma u) (close_sound b u) (comma_sound u))

  members_sound : (h : Held) (b : Bracket) (k : ℕ) (ts : List Token) → Holds (MembersFound h b ts) (members inside most h b k ts)
  unfolding members
  members_sound h b zero ts = tt
  members_sound h b (suc k) ts = members_turn h b (members inside most h b k) (members_sound h b k) ts (behind_close b ts) (close_sound b ts)

  clauses_turn : (more : Parse Clauses) → ((ts : List Token) → Holds (ClausesFound ts) (more ts)) → (ts : List Token) (r : Head) → HeadSpells r ts → Holds (ClausesFound ts) (clauses_step inside most more ts r)
  clauses_turn more hm ts no_head e = record { are_clauses = tt; spells = refl }
  clauses_turn more hm ts (if_head u) e =
      then_holds (Found 2 u) (ClausesFound ts) (inside operand u) (λ a v. then_read (more v) (λ cs w. Some (if_clause a cs, w))) (sound operand u) (λ a v f.
      then_holds (ClausesFound v) (ClausesFound ts) (more v) (λ cs w. Some (if_clause a cs, w)) (hm v) (λ cs w g.
      record { are_clauses = (f.high, f.is_tree, g.are_clauses); spells = e ∙ ap (λ z. word If ∷ z) (f.spells ∙ ap (spelled a) g.spells) }))
  clauses_turn more hm ts (for_head x xs u) e =
      then_holds (Found 2 u) (ClausesFound ts) (inside operand u) (λ a v. then_read (more v) (λ cs w. Some (for_clause x xs a cs, w))) (sound operand u) (λ a v f.
      then_holds (ClausesFound v) (ClausesFound ts) (more v) (λ cs w. Some (for_clause x xs a cs, w)) (hm v) (λ cs w g.
      record { are_clauses = (f.high, f.is_tree, g.are_clauses); spells = e ∙ ap (λ z. word For ∷ name x ∷ names_spelled xs (word In ∷ z)) (f.spells ∙ ap (spelled a) g.spells) }))

  clauses_sound : (k : ℕ) (ts : List Token) → Holds (ClausesFound ts) (clauses inside most k ts)
  unfolding clauses
  clauses_sound zero ts = tt
  clauses_sound (suc k) ts = clauses_turn (clauses inside most k) (clauses_sound k) ts (head_at ts) (head_sound ts)

  -- a comprehension's closing bracket
  shut_sound : (b : Bracket) (m : Member) (cs : Clauses) (ts u w : List Token) → is_for u ≡ true → may_comprehend b ≡ true → MemberFound (held b) ts m u → ClausesFound u cs w → (r : Option (List Token)) → Behind (mark (close_mark b)) r w → Holds (Found 9 (mark (open_mark b) ∷ ts)) (at_close (comprehension b m cs) r)
  shut_sound b m cs ts u w begins may f g None e = tt
  shut_sound b m cs ts u w begins may f g (Some v) e =
      let all = g.spells ∙ ap (clauses_spelled cs) e in
      record { is_tree = (may, f.allows, f.is_member, for_starts cs b v (sym (ap is_for all) ∙ begins), g.are_clauses); high = Prim.omega arith; spells = ap (λ z. mark (open_mark b) ∷ z) (f.spells ∙ ap (member_spelled m) all) }

  first_sound : (b : Bracket) (m : Member) (ts u : List Token) → MemberFound (held b) ts m u → (r : Bool) → (is_for u && may_comprehend b) ≡ r → Holds (Found 9 (mark (open_mark b) ∷ ts)) (first_step inside most b m u r)
  first_sound b m ts u f true e =
      let both = both_true (is_for u) (may_comprehend b) e in
      then_holds (ClausesFound u) (Found 9 (mark (open_mark b) ∷ ts)) (clauses inside most most u) (λ cs. shut b (comprehension b m cs)) (clauses_sound most u)
      (λ cs w g. shut_sound b m cs ts u w both.0 both.1 f g (behind_close b w) (close_sound b w))
  first_sound b m ts u f false e =
      let more = members inside most (held b) b most in
      then_holds (MembersFound (held b) b ts) (Found 9 (mark (open_mark b) ∷ ts)) (after_member inside most more m (behind_close b u) (behind_comma u)) (λ ms v. Some (display b ms, v))
      (after_sound (held b) b more (members_sound (held b) b most) ts u m f (behind_close b u) (behind_comma u) (close_sound b u) (comma_sound u))
      (λ ms v g. record { is_tree = g.are_members; high = Prim.omega arith; spells = ap (λ z. mark (open_mark b) ∷ z) g.spells })

  display_sound : (b : Bracket) (ts : List Token) (r : Option (List Token)) → Behind (mark (close_mark b)) r ts → Holds (Found 9 (mark (open_mark b) ∷ ts)) (display_step inside most b ts r)
  display_sound b ts (Some u) e = record { is_tree = tt; high = Prim.omega arith; spells = ap (λ z. mark (open_mark b) ∷ z) e }
  display_sound b ts None e =
      then_holds (MemberFound (held b) ts) (Found 9 (mark (open_mark b) ∷ ts)) (member inside most (held b) ts) (λ m u. first_step inside most b m u (is_for u && may_comprehend b)) (member_sound (held b) ts)
      (λ m u f. first_sound b m ts u f (is_for u && may_comprehend b) refl)

  open_sound : (m : Mark) (ts : List Token) (r : Option Bracket) → opening m ≡ r → Holds (Found 9 (mark m ∷ ts)) (open_step inside most ts r)
  open_sound m ts None e = tt
  open_sound m ts (Some b) e = respelled 9 (mark m ∷ ts) (mark (open_mark b) ∷ ts) (display_step inside most b ts (behind_close b ts)) (ap (λ t. t ∷ ts) (opening_sound m b e)) (display_sound b ts (behind_close b ts) (close_sound b ts))

  atom_sound : Sound 9 (atom inside most)
  unfolding atom
  atom_sound [] = tt
  atom_sound (name x ∷ ts) = record { is_tree = tt; high = Prim.omega arith; spells = refl }
  atom_sound (number x ∷ ts) = record { is_tree = tt; high = Prim.omega arith; spells = refl }
  atom_sound (string x ∷ ts) = record { is_tree = tt; high = Prim.omega arith; spells = refl }
  atom_sound (word w ∷ ts) = tt
  atom_sound (mark m ∷ ts) = open_sound m ts (opening m) refl

  dot_sound : (more : Expr → Parse Expr) → Goes 9 more → (f : Expr) (ts u : List Token) → IsTree f → 9 ≤ level f → ts ≡ mark Dot ∷ u → (r : Option (List ℕ × List Token)) → NameSpells r u → Holds (Found 9 (spelled f ts)) (then_read r (λ x. more (field f x)))
  dot_sound more hm f ts u h le e None d = tt
  dot_sound more hm f ts u h le e (Some r) d =
      respelled 9 (spelled f ts) (spelled (field f r.0) r.1) (more (field f r.0) r.1) (ap (spelled f) (e ∙ ap (λ z. mark Dot ∷ z) d)) (hm (field f r.0) r.1 (le, h) (Prim.omega arith))

  index_sound : (more : Expr → Parse Expr) → Goes 9 more → (f a : Expr) (ts u v : List Token) → IsTree f → 9 ≤ level f → ts ≡ mark OpenBracket ∷ u → Found 1 u a v → (r : Option (List Token)) → Behind (mark CloseBracket) r v → Holds (Found 9 (spelled f ts)) (then_read (at_close (index f a) r) more)
  index_sound more hm f a ts u v h le e g None d = tt
  index_sound more hm f a ts u v h le e g (Some w) d =
      respelled 9 (spelled f ts) (spelled (index f a) w) (more (index f a) w) (ap (spelled f) (e ∙ ap (λ z. mark OpenBracket ∷ z) (g.spells ∙ ap (spelled a) d))) (hm (index f a) w (le, h, g.is_tree) (Prim.omega arith))

  call_sound : (more : Expr → Parse Expr) → Goes 9 more → (f : Expr) (ms : Members) (ts u v : List Token) → IsTree f → 9 ≤ level f → ts ≡ mark OpenParen ∷ u → MembersFound arguments Round u ms v → (r : Bool) → in_order ms ≡ r → Holds (Found 9 (spelled f ts)) (call_step inside most more f ms v r)
  call_sound more hm f ms ts u v h le e g false d = tt
  call_sound more hm f ms ts u v h le e g true d =
      respelled 9 (spelled f ts) (spelled (call f ms) v) (more (call f ms) v) (ap (spelled f) (e ∙ ap (λ z. mark OpenParen ∷ z) g.spells)) (hm (call f ms) v (le, h, d, g.are_members) (Prim.omega arith))

  suffix_sound : (more : Expr → Parse Expr) → Goes 9 more → (f : Expr) (ts : List Token) → IsTree f → 9 ≤ level f → (r : Next) → NextSpells r ts → Holds (Found 9 (spelled f ts)) (suffix_step inside most more f ts r)
  suffix_sound more hm f ts h le (dot_next u) e = dot_sound more hm f ts u h le e (name_at u) (name_sound u)
  suffix_sound more hm f ts h le (index_next u) e =
      then_holds (Found 1 u) (Found 9 (spelled f ts)) (inside whole u) (λ a v. then_read (shut Square (index f a) v) more) (sound whole u) (λ a v g. index_sound more hm f a ts u v h le e g (behind_close Square v) (close_sound Square v))
  suffix_sound more hm f ts h le (call_next u) e =
      then_holds (MembersFound arguments Round u) (Found 9 (spelled f ts)) (members inside most arguments Round most u) (λ ms v. call_step inside most more f ms v (in_order ms)) (members_sound arguments Round most u)
      (λ ms v g. call_sound more hm f ms ts u v h le e g (in_order ms) refl)
  suffix_sound more hm f ts h le (operator o u) e = stays 9 f ts h le
  suffix_sound more hm f ts h le (if_next u) e = stays 9 f ts h le
  suffix_sound more hm f ts h le (assign_next u) e = stays 9 f ts h le
  suffix_sound more hm f ts h le nothing e = stays 9 f ts h le

  suffixes_sound : (k : ℕ) → Goes 9 (suffixes inside most k)
  unfolding suffixes
  suffixes_sound zero f ts h le = stays 9 f ts h le
  suffixes_sound (suc k) f ts h le = suffix_sound (suffixes inside most k) (suffixes_sound k) f ts h le (next ts) (next_sound ts)

  taken_sound : (l : ℕ) (up : Parse Expr) → Sound (suc l) up → (s : Sign) (u ts : List Token) → ts ≡ sign_token s ∷ u → (r : Bool) → (sign_level s == l) ≡ r → Holds (Found l ts) (taken_step inside most up s u ts r)
  taken_sound l up hup s u ts e false d = lower l up hup ts
  taken_sound l up hup s u ts e true d =
      let at = eqb-true (sign_level s) l d in
      let same = sign_rows s in
      then_holds (Found (row_level (sign_row s)) u) (Found l ts) (inside (sign_row s) u) (λ a v. Some (signed s a, v)) (sound (sign_row s) u) (λ a v g.
      record { is_tree = ((let k = g.high in Prim.omega (arith, k, same)), g.is_tree); high = Prim.omega (arith, at); spells = e ∙ ap (λ z. sign_token s ∷ z) g.spells })

  prefix_turn : (l : ℕ) (up : Parse Expr) → Sound (suc l) up → (ts : List Token) (r : Option (Sign × List Token)) → SignSpells r ts → Holds (Found l ts) (prefix_step inside most l up ts r)
  prefix_turn l up hup ts None e = lower l up hup ts
  prefix_turn l up hup ts (Some r) e = taken_sound l up hup r.0 r.1 ts e (sign_level r.0 == l) refl

  prefix_sound : (l : ℕ) (up : Parse Expr) → Sound (suc l) up → Sound l (prefix inside most l up)
  prefix_sound l up hup ts = prefix_turn l up hup ts (sign_at ts) (sign_sound ts)

  e9_sound : Sound 9 (e9 inside most)
  unfolding e9
  e9_sound = then_goes 9 (atom inside most) (suffixes inside most most) atom_sound (suffixes_sound most)

  e8_sound : Sound 8 (e8 inside most)
  unfolding e8
  e8_sound = prefix_sound 8 (e9 inside most) e9_sound

  e7_sound : Sound 7 (e7 inside most)
  unfolding e7
  e7_sound = chained_sound 7 (e8 inside most) most e8_sound (λ o e. left_chained o 7 e (λ d. Prim.omega (arith, d)))

  e6_sound : Sound 6 (e6 inside most)
  unfolding e6
  e6_sound = chained_sound 6 (e7 inside most) most e7_sound (λ o e. left_chained o 6 e (λ d. Prim.omega (arith, d)))

  e5_sound : Sound 5 (e5 inside most)
  unfolding e5
  e5_sound ts =
      then_holds (Found 6 ts) (Found 5 ts) (e6 inside most ts) (chain 5 (e6 inside most) 1) (e6_sound ts)
      (λ f u g. respelled 5 ts (spelled f u) (chain 5 (e6 inside most) 1 f u) g.spells (once_sound (e6 inside most) e6_sound f u g.is_tree g.high))

  e4_sound : Sound 4 (e4 inside most)
  unfolding e4
  e4_sound = prefix_sound 4 (e5 inside most) e5_sound

  e3_sound : Sound 3 (e3 inside most)
  unfolding e3
  e3_sound = chained_sound 3 (e4 inside most) most e4_sound (λ o e. left_chained o 3 e (λ d. Prim.omega (arith, d)))

  e2_sound : Sound 2 (e2 inside most)
  unfolding e2
  e2_sound = chained_sound 2 (e3 inside most) most e3_sound (λ o e. left_chained o 2 e (λ d. Prim.omega (arith, d)))

  else_turn : (a c : Expr) (ts u v w : List Token) → Found 2 ts a u → u ≡ word If ∷ v → Found 2 v c w → (r : Option (List Token)) → Behind (word Else) r w → Holds (Found 1 ts) (else_step inside most a c r)
  else_turn a c ts u v w f e g None d = tt
  else_turn a c ts u v w f e g (Some x) d =
      then_holds (Found 1 x) (Found 1 ts) (inside whole x) (λ b y. Some (conditional a c b, y)) (sound whole x) (λ b y h.
      record { is_tree = (f.high, f.is_tree, g.high, g.is_tree, h.is_tree); high = Prim.omega arith; spells = f.spells ∙ ap (spelled a) (e ∙ ap (λ z. word If ∷ z) (g.spells ∙ ap (spelled c) (d ∙ ap (λ z. word Else ∷ z) h.spells))) })

  same_found : (a : Expr) (ts u : List Token) → Found 2 ts a u → Found 1 ts a u
  same_found a ts u f = record { is_tree = f.is_tree; high = let k = f.high in Prim.omega (arith, k); spells = f.spells }

  if_turn : (a : Expr) (ts u : List Token) → Found 2 ts a u → (r : Next) → NextSpells r u → Holds (Found 1 ts) (if_step inside most a u r)
  if_turn a ts u f (if_next v) e =
      then_holds (Found 2 v) (Found 1 ts) (e2 inside most v) (λ c w. else_step inside most a c (behind_else w)) (e2_sound v) (λ c w g. else_turn a c ts u v w f e g (behind_else w) (else_sound w))
  if_turn a ts u f (operator o v) e = same_found a ts u f
  if_turn a ts u f (dot_next v) e = same_found a ts u f
  if_turn a ts u f (index_next v) e = same_found a ts u f
  if_turn a ts u f (call_next v) e = same_found a ts u f
  if_turn a ts u f (assign_next v) e = same_found a ts u f
  if_turn a ts u f nothing e = same_found a ts u f

  e1_sound : Sound 1 (e1 inside most)
  unfolding e1
  e1_sound ts = then_holds (Found 2 ts) (Found 1 ts) (e2 inside most ts) (λ a u. if_step inside most a u (next u)) (e2_sound ts) (λ a u f. if_turn a ts u f (next u) (next_sound u))

pub read_sound : (n : ℕ) (r : Row) → Sound (row_level r) (read n r)
unfolding read
read_sound zero r ts = tt
read_sound (suc n) whole ts = e1_sound (read n) (suc n) (read_sound n) ts
read_sound (suc n) operand ts = e2_sound (read n) (suc n) (read_sound n) ts
read_sound (suc n) negated ts = e4_sound (read n) (suc n) (read_sound n) ts
read_sound (suc n) opposed ts = e8_sound (read n) (suc n) (read_sound n) ts

-- what is read is the tree of the tokens
pub last_sound : (ts : List Token) (t : Expr) → reads ts ≡ Some t → Spells ts t
last_sound ts t e = go (read (length ts) whole ts) (read_sound (length ts) whole ts) e
  where
    go : (r : Option (Expr × List Token)) → Holds (Found 1 ts) r → Path (Option Expr) (if_last r) (Some t) → Spells ts t
    go None h e = Prim.cc
    go (Some (u, [])) h e = subst (Spells ts) (some_same e) (record { is_tree = h.is_tree; whole = h.spells })
    go (Some (u, v ∷ vs)) h e = Prim.cc
