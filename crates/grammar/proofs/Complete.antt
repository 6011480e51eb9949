-- What is spelled is read, and so tokens have at most one tree.
use Rattle.std.proofs.Common.{◌≡◌, ℕ, suc, ◌+◌, ◌≤◌, true, false, List, [], ◌∷◌, Option, Some, None, refl, sym, ap, ◌∙◌, arith, length, inl, inr}
use Rattle.std.specs.Prelude.{◌==◌}
use Rattle.std.proofs.lemmas.Bool.Decides.{eqb_tells}
use Rattle.lexer.specs.declared.token.Mark.TheVariants.{Dot, OpenBracket, CloseBracket, OpenParen, CloseParen}
use Rattle.lexer.specs.declared.token.Word.TheVariants.{Else, If}
use Rattle.lexer.specs.declared.layout.Bracket.{Bracket}
use Rattle.lexer.specs.Tokens.{Token, name, mark, word}
use Rattle.grammar.specs.Tree.{Operator, Sign, negation, opposite, Expr, identifier, integer, text, display, comprehension, conditional, operation, signed, field, index, call, Member, plain, keyword, entry, Members, no_members, last_member, next_member, Clauses, no_clauses, for_clause, if_clause}
use Rattle.grammar.specs.Levels.{operator_level, left_level, sign_level, level, Held, arguments, held, IsTree, IsMember, AreMembers, AreClauses}
use Rattle.grammar.specs.Spelling.{operator_spelled, open_mark, spelled, members_spelled, Spells}
use Rattle.grammar.specs.Front.{next, keyword_at}
use Rattle.grammar.specs.Reading.{whole, read, if_last, reads}
use Rattle.grammar.proofs.FrontLemmas.{free_of, Free, next_operator, front, front_open, name_free}
use Rattle.grammar.proofs.Sizes.{size, turns_step, turns, no_turns, by_level, left_high, left_comparison, sized}
use Rattle.grammar.proofs.Rungs.{E8, E7, E6, E4, E3, Suffixed, Facts, operation_chained, facts, inner}
use Rattle.grammar.proofs.TreeForms.{MemberFacts, MembersRead, ClausesFacts, plain_facts, keyword_facts, entry_facts, none_read, last_read, next_read, no_clauses_facts, for_facts, if_facts, identifier_read, integer_read, text_read, empty_read, one_read, several_read, comprehension_read, field_read, index_read, call_read, negation_read, opposite_read, conditional_read}

pub level_some : (t : Expr) → 1 ≤ level t
level_some (identifier x) = Prim.omega arith
level_some (integer x) = Prim.omega arith
level_some (text x) = Prim.omega arith
level_some (display b ms) = Prim.omega arith
level_some (comprehension b m cs) = Prim.omega arith
level_some (conditional a c b) = Prim.omega arith
level_some (operation o a b) = by_level (λ n. 1 ≤ n) (Prim.omega arith) (Prim.omega arith) (Prim.omega arith) (Prim.omega arith) (Prim.omega arith) o
level_some (signed negation a) = Prim.omega arith
level_some (signed opposite a) = Prim.omega arith
level_some (field f x) = Prim.omega arith
level_some (index f a) = Prim.omega arith
level_some (call f ms) = Prim.omega arith

-- a form of the tightest level
tightest : (t : Expr) → level t ≡ 9 → ((ts : List Token) → 9 ≤ front (spelled t ts)) → ((ts : List Token) → Free ts → keyword_at (spelled t ts) ≡ None) → Suffixed t → Facts t
tightest t e begins unnamed h = facts t (record {
  top = Prim.omega (arith, e);
  fronted = λ ts. let k = begins ts in Prim.omega (arith, e, k);
  unnamed = unnamed;
  one = let k = no_turns 5 t (Prim.omega (arith, e)) in Prim.omega (arith, k);
  own9 = λ _. h;
  own8 = λ d. absurd (Prim.omega (arith, d, e));
  own7 = λ d. absurd (Prim.omega (arith, d, e));
  own6 = λ d. absurd (Prim.omega (arith, d, e));
  own5 = λ d. absurd (Prim.omega (arith, d, e));
  own4 = λ d. absurd (Prim.omega (arith, d, e));
  own3 = λ d. absurd (Prim.omega (arith, d, e));
  own2 = λ d. absurd (Prim.omega (arith, d, e));
  own1 = λ d. absurd (Prim.omega (arith, d, e));
})

-- a display or a comprehension
bracketed : (t : Expr) (b : Bracket) (u : List Token → List Token) → level t ≡ 9 → ((ts : List Token) → spelled t ts ≡ mark (open_mark b) ∷ u ts) → Suffixed t → Facts t
unfolding keyword_at
bracketed t b u e same h = tightest t e begins unnamed h
  where
    begins : (ts : List Token) → 9 ≤ front (spelled t ts)
    begins ts = let k : front (spelled t ts) ≡ 9 = ap front (same ts) ∙ front_open b (u ts) in Prim.omega (arith, k)

    unnamed : (ts : List Token) → Free ts → keyword_at (spelled t ts) ≡ None
    unnamed ts free = ap keyword_at (same ts)

identifier_facts : (x : List ℕ) → Facts (identifier x)
unfolding front
identifier_facts x = tightest (identifier x) refl (λ ts. Prim.omega arith) (λ ts free. name_free x ts free) (identifier_read x)

integer_facts : (x : ℕ) → Facts (integer x)
unfolding front keyword_at
integer_facts x = tightest (integer x) refl (λ ts. Prim.omega arith) (λ ts free. refl) (integer_read x)

text_facts : (x : List ℕ) → Facts (text x)
unfolding front keyword_at
text_facts x = tightest (text x) refl (λ ts. Prim.omega arith) (λ ts free. refl) (text_read x)

field_facts : (f : Expr) (x : List ℕ) → Facts f → 9 ≤ level f → Facts (field f x)
unfolding next
field_facts f x h high = tightest (field f x) refl (λ ts. let k = h.fronted (mark Dot ∷ name x ∷ ts) in Prim.omega (arith, k, high)) (λ ts free. h.unnamed (mark Dot ∷ name x ∷ ts) refl) (field_read f x (h.s9 high))

index_facts : (f a : Expr) → Facts f → 9 ≤ level f → Facts a → Facts (index f a)
unfolding next
index_facts f a h high g =
    tightest (index f a) refl
    (λ ts. let k = h.fronted (mark OpenBracket ∷ spelled a (mark CloseBracket ∷ ts)) in Prim.omega (arith, k, high))
    (λ ts free. h.unnamed (mark OpenBracket ∷ spelled a (mark CloseBracket ∷ ts)) refl)
    (index_read f a (h.s9 high) g (level_some a))

call_facts : (f : Expr) (ms : Members) → Facts f → 9 ≤ level f → Suffixed (call f ms) → Facts (call f ms)
unfolding next
call_facts f ms h high s =
    tightest (call f ms) refl
    (λ ts. let k = h.fronted (mark OpenParen ∷ members_spelled ms (mark CloseParen ∷ ts)) in Prim.omega (arith, k, high))
    (λ ts free. h.unnamed (mark OpenParen ∷ members_spelled ms (mark CloseParen ∷ ts)) refl)
    s

negation_facts : (a : Expr) → Facts a → 4 ≤ level a → Facts (signed negation a)
unfolding front keyword_at
negation_facts a h high = facts (signed negation a) (record {
  top = Prim.omega arith;
  fronted = λ ts. Prim.omega arith;
  unnamed = λ ts free. refl;
  one = Prim.omega arith;
  own9 = λ d. absurd (Prim.omega (arith, d));
  own8 = λ d. absurd (Prim.omega (arith, d));
  own7 = λ d. absurd (Prim.omega (arith, d));
  own6 = λ d. absurd (Prim.omega (arith, d));
  own5 = λ d. absurd (Prim.omega (arith, d));
  own4 = λ _. negation_read a h high;
  own3 = λ d. absurd (Prim.omega (arith, d));
  own2 = λ d. absurd (Prim.omega (arith, d));
  own1 = λ d. absurd (Prim.omega (arith, d));
})

opposite_facts : (a : Expr) → Facts a → 8 ≤ level a → Facts (signed opposite a)
unfolding front keyword_at
opposite_facts a h high = facts (signed opposite a) (record {
  top = Prim.omega arith;
  fronted = λ ts. Prim.omega arith;
  unnamed = λ ts free. refl;
  one = Prim.omega arith;
  own9 = λ d. absurd (Prim.omega (arith, d));
  own8 = λ _. opposite_read a h high;
  own7 = λ d. absurd (Prim.omega (arith, d));
  own6 = λ d. absurd (Prim.omega (arith, d));
  own5 = λ d. absurd (Prim.omega (arith, d));
  own4 = λ d. absurd (Prim.omega (arith, d));
  own3 = λ d. absurd (Prim.omega (arith, d));
  own2 = λ d. absurd (Prim.omega (arith, d));
  own1 = λ d. absurd (Prim.omega (arith, d));
})

signed_facts : (s : Sign) (a : Expr) → Facts a → sign_level s ≤ level a → Facts (signed s a)
signed_facts negation a h high = negation_facts a h high
signed_facts opposite a h high = opposite_facts a h high

conditional_facts : (a c b : Expr) → Facts a → 2 ≤ level a → Facts c → 2 ≤ level c → Facts b → Facts (conditional a c b)
unfolding next
conditional_facts a c b f high g tall h = facts (conditional a c b) (record {
  top = Prim.omega arith;
  fronted = λ ts. let k = f.fronted (word If ∷ spelled c (word Else ∷ spelled b ts)) in Prim.omega (arith, k, high);
  unnamed = λ ts free. f.unnamed (word If ∷ spelled c (word Else ∷ spelled b ts)) refl;
  one = Prim.omega arith;
  own9 = λ d. absurd (Prim.omega (arith, d));
  own8 = λ d. absurd (Prim.omega (arith, d));
  own7 = λ d. absurd (Prim.omega (arith, d));
  own6 = λ d. absurd (Prim.omega (arith, d));
  own5 = λ d. absurd (Prim.omega (arith, d));
  own4 = λ d. absurd (Prim.omega (arith, d));
  own3 = λ d. absurd (Prim.omega (arith, d));
  own2 = λ d. absurd (Prim.omega (arith, d));
  own1 = λ _. conditional_read a c b (f.r2 high) (g.r2 tall) h (level_some b);
})

-- comparisons are not chained
one_comparison : (o : Operator) (a b : Expr) → left_level o ≤ level a → turns 5 (operation o a b) ≤ 1
one_comparison o a b high = elim (eqb_tells (operator_level o) 5) [ inl e ↦ compared e.0 e.1 | inr e ↦ other e.0 ]
  where
    compared : (operator_level o == 5) ≡ true → operator_level o ≡ 5 → turns 5 (operation o a b) ≤ 1
    compared e d =
        let left = left_comparison o d in
        let none = no_turns 5 a (Prim.omega (arith, left, high)) in
        let same : turns 5 (operation o a b) ≡ suc (turns 5 a) = ap (λ r. turns_step r (turns 5 a)) e in
        Prim.omega (arith, same, none)

    other : (operator_level o == 5) ≡ false → turns 5 (operation o a b) ≤ 1
    other e = let same : turns 5 (operation o a b) ≡ 0 = ap (λ r. turns_step r (turns 5 a)) e in Prim.omega (arith, same)

-- an operator stands at one of five levels
operator_low : (o : Operator) → (operator_level o ≤ 7) × (2 ≤ operator_level o) × (operator_level o ≡ 4 → ⊥)
operator_low o = by_level (λ n. (n ≤ 7) × (2 ≤ n) × (n ≡ 4 → ⊥)) (Prim.omega arith, Prim.omega arith, λ e. Prim.omega (arith, e)) (Prim.omega arith, Prim.omega arith, λ e. Prim.omega (arith, e)) (Prim.omega arith, Prim.omega arith, λ e. Prim.omega (arith, e)) (Prim.omega arith, Prim.omega arith, λ e. Prim.omega (arith, e)) (Prim.omega arith, Prim.omega arith, λ e. Prim.omega (arith, e)) o

operation_facts : (o : Operator) (a b : Expr) → Facts a → left_level o ≤ level a → Facts b → suc (operator_level o) ≤ level b → Facts (operation o a b)
operation_facts o a b f high g tall =
    let low = operator_low o in
    let low0 = low.0 in
    let low1 = low.1 in
    let left : operator_level o ≤ level a = let k = left_high o in Prim.omega (arith, k, high) in
    facts (operation o a b) (record {
      top = Prim.omega (arith, low0);
      fronted = λ ts. let k = f.fronted (operator_spelled o (spelled b ts)) in Prim.omega (arith, k, left);
      unnamed = λ ts free. f.unnamed (operator_spelled o (spelled b ts)) (ap free_of (next_operator o (spelled b ts)));
      one = one_comparison o a b high;
      own9 = λ d. absurd (Prim.omega (arith, d, low0));
      own8 = λ d. absurd (Prim.omega (arith, d, low0));
      own7 = λ d. operation_chained 7 E8 o a b d (f.c7 (Prim.omega (arith, d, left))) (g.r8 (Prim.omega (arith, d, tall)));
      own6 = λ d. operation_chained 6 E7 o a b d (f.c6 (Prim.omega (arith, d, left))) (g.r7 (Prim.omega (arith, d, tall)));
      own5 = λ d. operation_chained 5 E6 o a b d (f.c5 (Prim.omega (arith, d, left))) (g.r6 (Prim.omega (arith, d, tall)));
      own4 = λ d. absurd (low.2 d);
      own3 = λ d. operation_chained 3 E4 o a b d (f.c3 (Prim.omega (arith, d, left))) (g.r4 (Prim.omega (arith, d, tall)));
      own2 = λ d. operation_chained 2 E3 o a b d (f.c2 (Prim.omega (arith, d, left))) (g.r3 (Prim.omega (arith, d, tall)));
      own1 = λ d. absurd (Prim.omega (arith, d, low1));
    })

mutual
  pub complete : (t : Expr) → IsTree t → Facts t
  complete (identifier x) h = identifier_facts x
  complete (integer x) h = integer_facts x
  complete (text x) h = text_facts x
  complete (display b ms) h = bracketed (display b ms) b (λ ts. members_spelled ms _) refl (λ ts. refl) (complete_display ms b h)
  complete (comprehension b m cs) h = bracketed (comprehension b m cs) b (λ ts. _) refl (λ ts. refl) (comprehension_read b m cs (complete_member m h.2) h.0 h.1 h.3 (complete_clauses cs h.4))
  complete (conditional a c b) h = conditional_facts a c b (complete a h.1) h.0 (complete c h.3) h.2 (complete b h.4)
  complete (operation o a b) h = operation_facts o a b (complete a h.1) h.0 (complete b h.3) h.2
  complete (signed s a) h = signed_facts s a (complete a h.1) h.0
  complete (field f x) h = field_facts f x (complete f h.1) h.0
  complete (index f a) h = index_facts f a (complete f h.1) h.0 (complete a h.2)
  complete (call f ms) h =
      let c = complete f h.1 in
      call_facts f ms c h.0 (call_read f ms (c.s9 h.0) h.2 (complete_members ms arguments h.3))

  complete_member : (m : Member) → IsMember m → MemberFacts m
  complete_member (plain a) h = plain_facts a (complete a h) (level_some a)
  complete_member (keyword x a) h = keyword_facts x a (complete a h) (level_some a)
  complete_member (entry k v) h = entry_facts k v (complete k h.0) (complete v h.1) (level_some k) (level_some v)

  complete_members : (ms : Members) (h : Held) → AreMembers h ms → MembersRead h ms
  complete_members no_members h are = none_read h
  complete_members (last_member m) h are = last_read h m (complete_member m are.1) are.0
  complete_members (next_member m ms) h are = next_read h m ms (complete_member m are.1) are.0 (complete_members ms h are.2)

  complete_display : (ms : Members) (b : Bracket) → AreMembers (held b) ms → Suffixed (display b ms)
  complete_display no_members b are = empty_read b
  complete_display (last_member m) b are = one_read b m (complete_member m are.1) are.0
  complete_display (next_member m ms) b are = several_read b m ms (complete_member m are.1) are.0 (complete_members ms (held b) are.2)

  complete_clauses : (cs : Clauses) → AreClauses cs → ClausesFacts cs
  complete_clauses no_clauses h = no_clauses_facts
  complete_clauses (for_clause x xs a cs) h = for_facts x xs a cs (complete a h.1) h.0 (complete_clauses cs h.2)
  complete_clauses (if_clause a cs) h = if_facts a cs (complete a h.1) h.0 (complete_clauses cs h.2)

-- an expression before other tokens is read, at each level that takes it
pub is_read : (t : Expr) → IsTree t → (n : ℕ) → size t ≤ n → read n whole (spelled t []) ≡ Some (t, [])
unfolding next
is_read t h n small = inner t (complete t h) whole (level_some t) n [] small (Prim.omega arith)

tree_of : Option (Expr × List Token) → Expr → Expr
tree_of None d = d
tree_of (Some r) d = r.0

-- tokens have at most one tree
pub one_tree : (t u : Expr) → IsTree t → IsTree u → spelled t [] ≡ spelled u [] → t ≡ u
unfolding tree_of
one_tree t u ht hu e =
    let n = size t + size u in
    let both : Path (Option (Expr × List Token)) (Some (t, [])) (Some (u, [])) = sym (is_read t ht n (Prim.omega arith)) ∙ ap (read n whole) e ∙ is_read u hu n (Prim.omega arith) in
    ap (λ r. tree_of r t) both

-- what has a tree is read
pub is_read_whole : (ts : List Token) (t : Expr) → Spells ts t → reads ts ≡ Some t
is_read_whole ts t h =
    let fits : size t ≤ length (spelled t []) = let k = sized t [] in Prim.omega (arith, k) in
    ap reads h.whole ∙ ap if_last (is_read t h.is_tree (length (spelled t [])) fits)
