-- What is spelled is read: each form, at the level of its own.
use Rattle.std.proofs.Common.{◌≡◌, ℕ, zero, suc, ◌+◌, ◌≤◌, true, List, ◌∷◌, Some, refl, ap, ◌∙◌, arith}
use Rattle.std.specs.Prelude.{◌&&◌}
use Rattle.lexer.specs.declared.token.Mark.TheVariants.{OpenParen, CloseParen, OpenBracket, CloseBracket, Comma, Colon, Dot, Assign}
use Rattle.lexer.specs.declared.token.Word.TheVariants.{Else, For, If, In}
use Rattle.lexer.specs.declared.layout.Bracket.{Bracket}
use Rattle.lexer.specs.declared.layout.Bracket.TheVariants.{Round, Square}
use Rattle.lexer.specs.Tokens.{Token, name, number, string, word, mark}
use Rattle.grammar.specs.Tree.{negation, opposite, Expr, identifier, integer, text, display, comprehension, conditional, signed, field, index, call, Member, plain, keyword, entry, Members, no_members, last_member, next_member, Clauses, no_clauses, for_clause, if_clause}
use Rattle.grammar.specs.Levels.{level, Held, items, entries, arguments, held, allowed, in_order, may_comprehend, starts_with_for}
use Rattle.grammar.specs.Spelling.{spelled, member_spelled, members_spelled, clauses_spelled, names_spelled, open_mark, close_mark}
use Rattle.grammar.specs.Front.{next, sign_at, name_at, keyword_at, behind_close, behind_comma, behind_colon, behind_else, is_for, for_step, head_at}
use Rattle.grammar.specs.Reading.{Parse, then_read, at_close, shut, whole, operand, negated, opposed, value_step, argument_step, member, after_member, members_step, members, clauses_step, clauses, first_step, display_step, open_step, atom, call_step, suffixes, if_step, else_step, e8, e4, e1, read}
use Rattle.grammar.proofs.FrontLemmas.{tail_of, tail, free_of, Ends, next_close, close_found, comma_unclosed, opening_found, names_found, front, front_unclosed}
use Rattle.grammar.proofs.Sizes.{size, member_size, sizes, clauses_size, suffixes_in}
use Rattle.grammar.proofs.Rungs.{E8, E4, E2, E1, Read, Suffixed, Facts, inner}

pub ends_close : (b : Bracket) (ts : List Token) → Ends (mark (close_mark b) ∷ ts)
ends_close b ts = (ap tail_of (next_close b ts), ap free_of (next_close b ts))

pub ends_comma : (ts : List Token) → Ends (mark Comma ∷ ts)
unfolding next
ends_comma ts = (refl, refl)

pub ends_colon : (ts : List Token) → Ends (mark Colon ∷ ts)
unfolding next
ends_colon ts = (refl, refl)

ends_for : (ts : List Token) → Ends (word For ∷ ts)
unfolding next
ends_for ts = (refl, refl)

tail_if : (ts : List Token) → tail (word If ∷ ts) ≡ 1
unfolding next
tail_if ts = refl

-- a member is read, where nothing goes on
pub record MemberFacts (m : Member) : Type 0 where
  pub fronted : (ts : List Token) → 1 ≤ front (member_spelled m ts)
  pub by : (h : Held) → allowed h m ≡ true → (n : ℕ) (ts : List Token) → member_size m ≤ n → Ends ts → member (read n) (suc n) h (member_spelled m ts) ≡ Some (m, ts)

-- members are read up to their closing bracket
abbrev pub MembersRead : Held → Members → Type 0
MembersRead h ms = (b : Bracket) (n k : ℕ) (ts : List Token) → sizes ms ≤ suc n → sizes ms ≤ k → members (read n) (suc n) h b k (members_spelled ms (mark (close_mark b) ∷ ts)) ≡ Some (ms, ts)

-- clauses are read up to a closing bracket
pub record ClausesFacts (cs : Clauses) : Type 0 where
  pub low : (b : Bracket) (ts : List Token) → suc (tail (clauses_spelled cs (mark (close_mark b) ∷ ts))) ≤ 2
  pub by : (b : Bracket) (n k : ℕ) (ts : List Token) → clauses_size cs ≤ suc n → clauses_size cs ≤ k → clauses (read n) (suc n) k (clauses_spelled cs (mark (close_mark b) ∷ ts)) ≡ Some (cs, mark (close_mark b) ∷ ts)

-- an expression in any place inside
pub any : (t : Expr) → Facts t → 1 ≤ level t → (n : ℕ) (ts : List Token) → size t ≤ n → Ends ts → read n whole (spelled t ts) ≡ Some (t, ts)
any t f high n ts small low = let k = low.0 in inner t f whole high n ts small (Prim.omega (arith, k))

plain_by : (t : Expr) → Facts t → 1 ≤ level t → (h : Held) → allowed h (plain t) ≡ true → (n : ℕ) (ts : List Token) → size t ≤ n → Ends ts → member (read n) (suc n) h (spelled t ts) ≡ Some (plain t, ts)
unfolding member
plain_by t f high items e n ts small low = ap (λ r. then_read r (λ a u. Some (plain a, u))) (any t f high n ts small low)
plain_by t f high entries e n ts small low = Prim.cc
plain_by t f high arguments e n ts small low =
    ap (argument_step (read n) (suc n) (spelled t ts)) (f.unnamed ts low.1)
    ∙ ap (λ r. then_read r (λ a u. Some (plain a, u))) (any t f high n ts small low)

pub plain_facts : (t : Expr) → Facts t → 1 ≤ level t → MemberFacts (plain t)
plain_facts t f high = record { fronted = λ ts. let h = f.fronted ts in Prim.omega (arith, h, high); by = plain_by t f high }

keyword_by : (x : List ℕ) (t : Expr) → Facts t → 1 ≤ level t → (h : Held) → allowed h (keyword x t) ≡ true → (n : ℕ) (ts : List Token) → size t ≤ n → Ends ts → member (read n) (suc n) h (name x ∷ mark Assign ∷ spelled t ts) ≡ Some (keyword x t, ts)
unfolding member keyword_at next
keyword_by x t f high items e n ts small low = Prim.cc
keyword_by x t f high entries e n ts small low = Prim.cc
keyword_by x t f high arguments e n ts small low = ap (λ r. then_read r (λ a u. Some (keyword x a, u))) (any t f high n ts small low)

pub keyword_facts : (x : List ℕ) (t : Expr) → Facts t → 1 ≤ level t → MemberFacts (keyword x t)
unfolding front
keyword_facts x t f high = record { fronted = λ ts. Prim.omega arith; by = keyword_by x t f high }

entry_by : (k v : Expr) → Facts k → Facts v → 1 ≤ level k → 1 ≤ level v → (h : Held) → allowed h (entry k v) ≡ true → (n : ℕ) (ts : List Token) → size k + size v ≤ n → Ends ts → member (read n) (suc n) h (spelled k (mark Colon ∷ spelled v ts)) ≡ Some (entry k v, ts)
unfolding member behind_colon
entry_by k v f g high tall items e n ts small low = Prim.cc
entry_by k v f g high tall arguments e n ts small low = Prim.cc
entry_by k v f g high tall entries e n ts small low =
    ap (λ r. then_read r (λ k u. value_step (read n) (suc n) k (behind_colon u))) (any k f high n (mark Colon ∷ spelled v ts) (Prim.omega (arith, small)) (ends_colon (spelled v ts)))
    ∙ ap (λ r. then_read r (λ v w. Some (entry k v, w))) (any v g tall n ts (Prim.omega (arith, small)) low)

pub entry_facts : (k v : Expr) → Facts k → Facts v → 1 ≤ level k → 1 ≤ level v → MemberFacts (entry k v)
entry_facts k v f g high tall = record { fronted = λ ts. let h = f.fronted (mark Colon ∷ spelled v ts) in Prim.omega (arith, h, high); by = entry_by k v f g high tall }

-- behind the last member stands the closing bracket
after_last : (more : Parse Members) (n : ℕ) (m : Member) (b : Bracket) (ts : List Token) → after_member (read n) (suc n) more m (behind_close b (mark (close_mark b) ∷ ts)) (behind_comma (mark (close_mark b) ∷ ts)) ≡ Some (last_member m, ts)
after_last more n m b ts = ap (λ r. after_member (read n) (suc n) more m r (behind_comma (mark (close_mark b) ∷ ts))) (close_found b ts)

-- behind another one stands a comma
after_next : (more : Parse Members) (n : ℕ) (m : Member) (ms : Members) (b : Bracket) (u ts : List Token) → more u ≡ Some (ms, ts) → after_member (read n) (suc n) more m (behind_close b (mark Comma ∷ u)) (behind_comma (mark Comma ∷ u)) ≡ Some (next_member m ms, ts)
unfolding behind_comma
after_next more n m ms b u ts e =
    ap (λ r. after_member (read n) (suc n) more m r (Some u)) (comma_unclosed b u)
    ∙ ap (λ r. then_read r (λ ms v. Some (next_member m ms, v))) e

pub none_read : (h : Held) → MembersRead h no_members
unfolding members
none_read h b n zero ts small fits = absurd (Prim.omega (arith, fits))
none_read h b n (suc k) ts small fits = ap (members_step (read n) (suc n) (members (read n) (suc n) h b k) h b (mark (close_mark b) ∷ ts)) (close_found b ts)

-- a member is no closing bracket, and is read
member_begins : (h : Held) (m : Member) → MemberFacts m → allowed h m ≡ true → (b : Bracket) (n k : ℕ) (ts : List Token) → member_size m ≤ n → Ends ts → members (read n) (suc n) h b (suc k) (member_spelled m ts) ≡ after_member (read n) (suc n) (members (read n) (suc n) h b k) m (behind_close b ts) (behind_comma ts)
unfolding members
member_begins h m f e b n k ts small low =
    let more = members (read n) (suc n) h b k in
    ap (members_step (read n) (suc n) more h b (member_spelled m ts)) (front_unclosed b (member_spelled m ts) (f.fronted ts))
    ∙ ap (λ r. then_read r (λ m u. after_member (read n) (suc n) more m (behind_close b u) (behind_comma u))) (f.by h e n ts small low)

pub last_read : (h : Held) (m : Member) → MemberFacts m → allowed h m ≡ true → MembersRead h (last_member m)
last_read h m f e b n zero ts small fits = absurd (Prim.omega (arith, fits))
last_read h m f e b n (suc k) ts small fits =
    member_begins h m f e b n k (mark (close_mark b) ∷ ts) (Prim.omega (arith, small)) (ends_close b ts) ∙ after_last (members (read n) (suc n) h b k) n m b ts

pub next_read : (h : Held) (m : Member) (ms : Members) → MemberFacts m → allowed h m ≡ true → MembersRead h ms → MembersRead h (next_member m ms)
next_read h m ms f e g b n zero ts small fits = absurd (Prim.omega (arith, fits))
next_read h m ms f e g b n (suc k) ts small fits =
    let u = members_spelled ms (mark (close_mark b) ∷ ts) in
    member_begins h m f e b n k (mark Comma ∷ u) (Prim.omega (arith, small)) (ends_comma u)
    ∙ after_next (members (read n) (suc n) h b k) n m ms b u ts (g b n k ts (Prim.omega (arith, small)) (Prim.omega (arith, fits)))

pub no_clauses_facts : ClausesFacts no_clauses
unfolding clauses head_at
no_clauses_facts = record { low = low; by = by }
  where
    low : (b : Bracket) (ts : List Token) → suc (tail (mark (close_mark b) ∷ ts)) ≤ 2
    low b ts = let h = (ends_close b ts).0 in Prim.omega (arith, h)

    by : (b : Bracket) (n k : ℕ) (ts : List Token) → 1 ≤ suc n → 1 ≤ k → clauses (read n) (suc n) k (mark (close_mark b) ∷ ts) ≡ Some (no_clauses, mark (close_mark b) ∷ ts)
    by b n zero ts small fits = absurd (Prim.omega (arith, fits))
    by b n (suc k) ts small fits = refl

for_by : (x : List ℕ) (xs : List (List ℕ)) (t : Expr) (cs : Clauses) → Facts t → 2 ≤ level t → ClausesFacts cs → (b : Bracket) (n k : ℕ) (ts : List Token) → clauses_size (for_clause x xs t cs) ≤ suc n → clauses_size (for_clause x xs t cs) ≤ k → clauses (read n) (suc n) k (clauses_spelled (for_clause x xs t cs) (mark (close_mark b) ∷ ts)) ≡ Some (for_clause x xs t cs, mark (close_mark b) ∷ ts)
unfolding clauses head_at
for_by x xs t cs f high g b n zero ts small fits = absurd (Prim.omega (arith, fits))
for_by x xs t cs f high g b n (suc k) ts small fits =
    let u = clauses_spelled cs (mark (close_mark b) ∷ ts) in
    let more = clauses (read n) (suc n) k in
    ap (λ r. clauses_step (read n) (suc n) more (clauses_spelled (for_clause x xs t cs) (mark (close_mark b) ∷ ts)) (for_step x r)) (names_found xs (spelled t u))
    ∙ ap (λ r. then_read r (λ a v. then_read (more v) (λ cs w. Some (for_clause x xs a cs, w)))) (inner t f operand high n u (Prim.omega (arith, small)) (g.low b ts))
    ∙ ap (λ r. then_read r (λ cs w. Some (for_clause x xs t cs, w))) (g.by b n k ts (Prim.omega (arith, small)) (Prim.omega (arith, fits)))

pub for_facts : (x : List ℕ) (xs : List (List ℕ)) (t : Expr) (cs : Clauses) → Facts t → 2 ≤ level t → ClausesFacts cs → ClausesFacts (for_clause x xs t cs)
for_facts x xs t cs f high g = record { low = low; by = for_by x xs t cs f high g }
  where
    low : (b : Bracket) (ts : List Token) → suc (tail (clauses_spelled (for_clause x xs t cs) (mark (close_mark b) ∷ ts))) ≤ 2
    low b ts = let h = (ends_for (name x ∷ names_spelled xs (word In ∷ spelled t (clauses_spelled cs (mark (close_mark b) ∷ ts))))).0 in Prim.omega (arith, h)

if_by : (t : Expr) (cs : Clauses) → Facts t → 2 ≤ level t → ClausesFacts cs → (b : Bracket) (n k : ℕ) (ts : List Token) → clauses_size (if_clause t cs) ≤ suc n → clauses_size (if_clause t cs) ≤ k → clauses (read n) (suc n) k (clauses_spelled (if_clause t cs) (mark (close_mark b) ∷ ts)) ≡ Some (if_clause t cs, mark (close_mark b) ∷ ts)
unfolding clauses head_at
if_by t cs f high g b n zero ts small fits = absurd (Prim.omega (arith, fits))
if_by t cs f high g b n (suc k) ts small fits =
    let u = clauses_spelled cs (mark (close_mark b) ∷ ts) in
    let more = clauses (read n) (suc n) k in
    ap (λ r. then_read r (λ a v. then_read (more v) (λ cs w. Some (if_clause a cs, w)))) (inner t f operand high n u (Prim.omega (arith, small)) (g.low b ts))
    ∙ ap (λ r. then_read r (λ cs w. Some (if_clause t cs, w))) (g.by b n k ts (Prim.omega (arith, small)) (Prim.omega (arith, fits)))

pub if_facts : (t : Expr) (cs : Clauses) → Facts t → 2 ≤ level t → ClausesFacts cs → ClausesFacts (if_clause t cs)
if_facts t cs f high g = record { low = low; by = if_by t cs f high g }
  where
    low : (b : Bracket) (ts : List Token) → suc (tail (clauses_spelled (if_clause t cs) (mark (close_mark b) ∷ ts))) ≤ 2
    low b ts = let h = tail_if (spelled t (clauses_spelled cs (mark (close_mark b) ∷ ts))) in Prim.omega (arith, h)

-- an atom, and what the loop behind it does
from_atom : (t : Expr) → suffixes_in t ≡ 0 → ((n : ℕ) (ts : List Token) → size t ≤ suc n → atom (read n) (suc n) (spelled t ts) ≡ Some (t, ts)) → Suffixed t
from_atom t none h n k j ts small e =
    let same : k ≡ j = Prim.omega (arith, e, none) in
    ap (λ r. then_read r (suffixes (read n) (suc n) k)) (h n ts small) ∙ ap (λ i. suffixes (read n) (suc n) i t ts) same

pub identifier_read : (x : List ℕ) → Suffixed (identifier x)
unfolding atom
identifier_read x = from_atom (identifier x) refl found
  where
    found : (n : ℕ) (ts : List Token) → 1 ≤ suc n → atom (read n) (suc n) (name x ∷ ts) ≡ Some (identifier x, ts)
    found n ts small = refl

pub integer_read : (x : ℕ) → Suffixed (integer x)
unfolding atom
integer_read x = from_atom (integer x) refl found
  where
    found : (n : ℕ) (ts : List Token) → 1 ≤ suc n → atom (read n) (suc n) (number x ∷ ts) ≡ Some (integer x, ts)
    found n ts small = refl

pub text_read : (x : List ℕ) → Suffixed (text x)
unfolding atom
text_read x = from_atom (text x) refl found
  where
    found : (n : ℕ) (ts : List Token) → 1 ≤ suc n → atom (read n) (suc n) (string x ∷ ts) ≡ Some (text x, ts)
    found n ts small = refl

-- behind an opening bracket
opened : (n : ℕ) (b : Bracket) (u : List Token) → atom (read n) (suc n) (mark (open_mark b) ∷ u) ≡ display_step (read n) (suc n) b u (behind_close b u)
unfolding atom
opened n b u = ap (open_step (read n) (suc n) u) (opening_found b)

-- and with a first member
first_found : (n : ℕ) (b : Bracket) (m : Member) → MemberFacts m → allowed (held b) m ≡ true → (u : List Token) → member_size m ≤ n → Ends u → atom (read n) (suc n) (mark (open_mark b) ∷ member_spelled m u) ≡ first_step (read n) (suc n) b m u (is_for u && may_comprehend b)
first_found n b m f e u small low =
    opened n b (member_spelled m u)
    ∙ ap (display_step (read n) (suc n) b (member_spelled m u)) (front_unclosed b (member_spelled m u) (f.fronted u))
    ∙ ap (λ r. then_read r (λ m u. first_step (read n) (suc n) b m u (is_for u && may_comprehend b))) (f.by (held b) e n u small low)

pub empty_read : (b : Bracket) → Suffixed (display b no_members)
empty_read b = from_atom (display b no_members) refl found
  where
    found : (n : ℕ) (ts : List Token) → 2 ≤ suc n → atom (read n) (suc n) (mark (open_mark b) ∷ mark (close_mark b) ∷ ts) ≡ Some (display b no_members, ts)
    found n ts small = opened n b (mark (close_mark b) ∷ ts) ∙ ap (display_step (read n) (suc n) b (mark (close_mark b) ∷ ts)) (close_found b ts)

pub one_read : (b : Bracket) (m : Member) → MemberFacts m → allowed (held b) m ≡ true → Suffixed (display b (last_member m))
unfolding is_for
one_read b m f e = from_atom (display b (last_member m)) refl found
  where
    found : (n : ℕ) (ts : List Token) → suc (suc (member_size m)) ≤ suc n → atom (read n) (suc n) (mark (open_mark b) ∷ member_spelled m (mark (close_mark b) ∷ ts)) ≡ Some (display b (last_member m), ts)
    found n ts small =
        first_found n b m f e (mark (close_mark b) ∷ ts) (Prim.omega (arith, small)) (ends_close b ts)
        ∙ ap (λ r. then_read r (λ ms v. Some (display b ms, v))) (after_last (members (read n) (suc n) (held b) b (suc n)) n m b ts)

pub several_read : (b : Bracket) (m : Member) (ms : Members) → MemberFacts m → allowed (held b) m ≡ true → MembersRead (held b) ms → Suffixed (display b (next_member m ms))
unfolding is_for
several_read b m ms f e g = from_atom (display b (next_member m ms)) refl found
  where
    found : (n : ℕ) (ts : List Token) → suc (suc (member_size m + sizes ms)) ≤ suc n → atom (read n) (suc n) (mark (open_mark b) ∷ member_spelled m (mark Comma ∷ members_spelled ms (mark (close_mark b) ∷ ts))) ≡ Some (display b (next_member m ms), ts)
    found n ts small =
        let u = members_spelled ms (mark (close_mark b) ∷ ts) in
        first_found n b m f e (mark Comma ∷ u) (Prim.omega (arith, small)) (ends_comma u)
        ∙ ap (λ r. then_read r (λ ms v. Some (display b ms, v))) (after_next (members (read n) (suc n) (held b) b (suc n)) n m ms b u ts (g b n (suc n) ts (Prim.omega (arith, small)) (Prim.omega (arith, small))))

for_first : (cs : Clauses) → starts_with_for cs ≡ true → (ts : List Token) → Ends (clauses_spelled cs ts) × (is_for (clauses_spelled cs ts) ≡ true)
unfolding is_for
for_first no_clauses e ts = Prim.cc
for_first (if_clause a cs) e ts = Prim.cc
for_first (for_clause x xs a cs) e ts = (ends_for (name x ∷ names_spelled xs (word In ∷ spelled a (clauses_spelled cs ts))), refl)

pub comprehension_read : (b : Bracket) (m : Member) (cs : Clauses) → MemberFacts m → may_comprehend b ≡ true → allowed (held b) m ≡ true → starts_with_for cs ≡ true → ClausesFacts cs → Suffixed (comprehension b m cs)
comprehension_read b m cs f may e starts g = from_atom (comprehension b m cs) refl found
  where
    found : (n : ℕ) (ts : List Token) → suc (member_size m + clauses_size cs) ≤ suc n → atom (read n) (suc n) (mark (open_mark b) ∷ member_spelled m (clauses_spelled cs (mark (close_mark b) ∷ ts))) ≡ Some (comprehension b m cs, ts)
    found n ts small =
        let us = mark (close_mark b) ∷ ts in
        let u = clauses_spelled cs us in
        let begins = for_first cs starts us in
        first_found n b m f e u (Prim.omega (arith, small)) begins.0
        ∙ ap (λ r. first_step (read n) (suc n) b m u (r && may_comprehend b)) begins.1
        ∙ ap (first_step (read n) (suc n) b m u) may
        ∙ ap (λ r. then_read r (λ cs. shut b (comprehension b m cs))) (g.by b n (suc n) ts (Prim.omega (arith, small)) (Prim.omega (arith, small)))
        ∙ ap (at_close (comprehension b m cs)) (close_found b ts)

pub field_read : (f : Expr) (x : List ℕ) → Suffixed f → Suffixed (field f x)
unfolding suffixes next name_at
field_read f x h n k j ts small e = h n k (suc j) (mark Dot ∷ name x ∷ ts) (Prim.omega (arith, small)) (Prim.omega (arith, e))

pub index_read : (f a : Expr) → Suffixed f → Facts a → 1 ≤ level a → Suffixed (index f a)
unfolding suffixes next
index_read f a h g high n k j ts small e =
    let us = mark CloseBracket ∷ ts in
    h n k (suc j) (mark OpenBracket ∷ spelled a us) (Prim.omega (arith, small)) (Prim.omega (arith, e))
    ∙ ap (λ r. then_read r (λ a v. then_read (shut Square (index f a) v) (suffixes (read n) (suc n) j))) (any a g high n us (Prim.omega (arith, small)) (ends_close Square ts))
    ∙ ap (λ r. then_read (at_close (index f a) r) (suffixes (read n) (suc n) j)) (close_found Square ts)

pub call_read : (f : Expr) (ms : Members) → Suffixed f → in_order ms ≡ true → MembersRead arguments ms → Suffixed (call f ms)
unfolding suffixes next
call_read f ms h ordered g n k j ts small e =
    let u = members_spelled ms (mark CloseParen ∷ ts) in
    let more = suffixes (read n) (suc n) j in
    h n k (suc j) (mark OpenParen ∷ u) (Prim.omega (arith, small)) (Prim.omega (arith, e))
    ∙ ap (λ r. then_read r (λ ms v. call_step (read n) (suc n) more f ms v (in_order ms))) (g Round n (suc n) ts (Prim.omega (arith, small)) (Prim.omega (arith, small)))
    ∙ ap (call_step (read n) (suc n) more f ms ts) ordered

pub negation_read : (a : Expr) → Facts a → 4 ≤ level a → Read 4 E4 (signed negation a)
unfolding e4 sign_at
negation_read a f high n ts small stops = ap (λ r. then_read r (λ a v. Some (signed negation a, v))) (inner a f negated high n ts (Prim.omega (arith, small)) stops)

pub opposite_read : (a : Expr) → Facts a → 8 ≤ level a → Read 8 E8 (signed opposite a)
unfolding e8 sign_at
opposite_read a f high n ts small stops = ap (λ r. then_read r (λ a v. Some (signed opposite a, v))) (inner a f opposed high n ts (Prim.omega (arith, small)) stops)

pub conditional_read : (a c b : Expr) → Read 2 E2 a → Read 2 E2 c → Facts b → 1 ≤ level b → Read 1 E1 (conditional a c b)
unfolding e1 next behind_else
conditional_read a c b ra rc f high n ts small stops =
    let v = spelled b ts in
    let u = spelled c (word Else ∷ v) in
    ap (λ r. then_read r (λ a u. if_step (read n) (suc n) a u (next u))) (ra n (word If ∷ u) (Prim.omega (arith, small)) (Prim.omega arith))
    ∙ ap (λ r. then_read r (λ c v. else_step (read n) (suc n) a c (behind_else v))) (rc n (word Else ∷ v) (Prim.omega (arith, small)) (Prim.omega arith))
    ∙ ap (λ r. then_read r (λ b v. Some (conditional a c b, v))) (inner b f whole high n ts (Prim.omega (arith, small)) stops)
