-- The fault that the pass over brackets and columns finds is the first one of the relation.
use Rattle.std.proofs.Common.{ℕ, ◌≡◌, ◌≢◌, ◌+◌, ◌<◌, ◌⊎◌, inl, inr, Bool, true, false, List, [], ◌∷◌, ◌++◌, refl, sym, ap, subst, ◌∙◌, append_assoc, Ok, Err, arith, Option, if◌then◌else◌}
use Rattle.std.specs.List.{AllByRecursion}
use Rattle.std.proofs.lemmas.List.{append-nil}
use Rattle.lexer.specs.declared.token.Mark.{Mark}
use Rattle.lexer.specs.Tokens.{Placed}
use Rattle.lexer.specs.Layout.{◌>>=◌, starts, is_colon, mark_of, columns_at, after_token, at_start, ended, line_starts}
use Rattle.lexer.specs.LaidOut.{IsLogicalLine, OnOwnLines, BlocksBehind, joined, first_line, first_column, last_line, ends_with_colon}
use Rattle.lexer.proofs.RunLaws.{either}
use Rattle.lexer.proofs.BracketLaws.{kinds}
use Rattle.lexer.proofs.BlockLaws.{blocks_are}
use Rattle.lexer.proofs.TurnLaws.{stepped, starts_off, goes_on_line, starts_there}
use Rattle.lexer.proofs.LayoutLemmas.{at_end}
use Rattle.lexer.proofs.LayoutBackLaws.{Numbered}
use Rattle.file_syntax.specs.IndentFault.{OpenBracket, OpenBehindMark, OpenBehind, BlocksAfter, AreFirstLines, last_of, IsColumnFault, IsIndentFault, wrong_column, wrong_bracket, never_closed, no_block}
use Rattle.file_syntax.proofs.Steps.{Layout, Open, all_held, standing}
use Rattle.file_syntax.proofs.OpenLaws.{open_is, misses_is, none_held, open_logical}
use Rattle.file_syntax.proofs.ColumnLaws.{column_fault_is}
use Rattle.file_syntax.proofs.StepLaws.{behind, newly, turn_middle, turn_first, refused_step, refused_token}

-- one line more behind lines
joined_more : (lines : List (List Placed)) (line : List Placed) → joined (lines ++ line ∷ []) ≡ joined lines ++ line
joined_more [] line = append-nil line
joined_more (l ∷ lines) line = ap (λ k. l ++ k) (joined_more lines line) ∙ sym (append_assoc l (joined lines) line)

-- it is the last
last_more : (lines : List (List Placed)) (line prior : List Placed) → last_of prior (lines ++ line ∷ []) ≡ line
last_more [] line prior = refl
last_more (l ∷ lines) line prior = last_more lines line l

-- all of them are logical lines
logical_more : (lines : List (List Placed)) (line : List Placed) → AllByRecursion IsLogicalLine lines → IsLogicalLine line
    → AllByRecursion IsLogicalLine (lines ++ line ∷ [])
logical_more [] line h k = (k, tt)
logical_more (l ∷ lines) line h k = (h.0, logical_more lines line h.1 k)

-- they stand on lines of their own
apart_more : (lines : List (List Placed)) (line : List Placed) → OnOwnLines lines → first_line line ≢ last_line 0 (last_of [] lines)
    → OnOwnLines (lines ++ line ∷ [])
apart_more [] line h k = (tt, tt)
apart_more (l ∷ []) line h k = (k, (tt, tt))
apart_more (l ∷ m ∷ lines) line h k = (h.0, apart_more (m ∷ lines) line h.1 k)

-- they stand in blocks
nested_more : (lines : List (List Placed)) (line prior : List Placed) (blocks mid after : List ℕ)
    → BlocksAfter blocks (ends_with_colon false prior) lines mid
    → BlocksBehind (ends_with_colon false (last_of prior lines)) (first_column line) mid after
    → BlocksAfter blocks (ends_with_colon false prior) (lines ++ line ∷ []) after
nested_more [] line prior blocks mid after h k = (after, subst (λ (b : List ℕ). BlocksBehind (ends_with_colon false prior) (first_column line) b after) h k, refl)
nested_more (l ∷ lines) line prior blocks mid after h k = (h.0, h.1, nested_more lines line l h.0 mid after h.2 k)

-- one token more in a logical line
open_more : (ts : List Placed) (t : Placed) (us mid vs : List OpenBracket) (line : ℕ) → OpenBehind us line ts mid
    → (mid ≡ [] → t.line ≡ last_line line ts) → OpenBehindMark (mark_of t.token) t.line mid vs
    → OpenBehind us line (ts ++ t ∷ []) vs
open_more [] t us mid vs line h on m =
    (λ e. on (h ∙ e), (vs, subst (λ (l : List OpenBracket). OpenBehindMark (mark_of t.token) t.line l vs) h m, refl))
open_more (u ∷ ts) t us mid vs line h on m = (h.0, (h.1.0, h.1.1, open_more ts t h.1.0 mid vs u.line h.1.2 on m))

-- whether it is a `:`
colon_more : (ts : List Placed) (t : Placed) (b : Bool) → ends_with_colon b (ts ++ t ∷ []) ≡ is_colon (mark_of t.token)
colon_more [] t b = refl
colon_more (u ∷ ts) t b = colon_more ts t (is_colon (mark_of u.token))

-- on which line it stands
line_more : (ts : List Placed) (t : Placed) (line : ℕ) → last_line line (ts ++ t ∷ []) ≡ t.line
line_more [] t line = refl
line_more (u ∷ ts) t line = line_more ts t u.line

-- the tokens of the logical line that is being read, behind whole ones: none only at the start of a text
abbrev Begun : List (List Placed) → List ℕ → List Placed → List ℕ → List OpenBracket → Type 0
Begun lines blocks [] kept us = (lines ≡ []) × (kept ≡ []) × (us ≡ [])
Begun lines blocks (c ∷ cs) kept us =
    (c.line ≢ last_line 0 (last_of [] lines))
    × BlocksBehind (ends_with_colon false (last_of [] lines)) c.column blocks kept
    × OpenBehind [] c.line (c ∷ cs) us

-- where a text stands behind the tokens `before`
record Reached (before current : List Placed) (kept : List ℕ) (us : List OpenBracket) : Type 0 where
  pub lines : List (List Placed)
  pub blocks : List ℕ
  pub whole : joined lines ++ current ≡ before
  pub first : AreFirstLines lines blocks
  pub begun : Begun lines blocks current kept us

-- the same, where the logical line is at its end
record Whole (before current : List Placed) (kept : List ℕ) : Type 0 where
  pub lines : List (List Placed)
  pub whole : joined lines ≡ before
  pub first : AreFirstLines lines kept
  pub last : last_of [] lines ≡ current

-- the logical line ends where no bracket is open
closed_up : (before current : List Placed) (kept : List ℕ) → Reached before current kept [] → Whole before current kept
closed_up before [] kept r = record {
  lines = [];
  whole = sym (ap joined r.begun.0) ∙ (sym (append-nil (joined r.lines)) ∙ r.whole);
  first = record { logical = tt; apart = tt; nested = r.begun.1 };
  last = refl;
}
closed_up before (c ∷ cs) kept r = record {
  lines = r.lines ++ (c ∷ cs) ∷ [];
  whole = joined_more r.lines (c ∷ cs) ∙ r.whole;
  first = record {
    logical = logical_more r.lines (c ∷ cs) r.first.logical (open_logical (c ∷ cs) [] c.line r.begun.2);
    apart = apart_more r.lines (c ∷ cs) r.first.apart r.begun.0;
    nested = nested_more r.lines (c ∷ cs) [] [] r.blocks kept r.first.nested r.begun.1;
  };
  last = last_more r.lines (c ∷ cs) [];
}

-- a token more in the logical line
further : (before cs : List Placed) (c t : Placed) (kept : List ℕ) (us vs : List OpenBracket) → Reached before (c ∷ cs) kept us
    → (us ≡ [] → t.line ≡ last_line c.line cs) → OpenBehindMark (mark_of t.token) t.line us vs
    → Reached (before ++ t ∷ []) (c ∷ cs ++ t ∷ []) kept vs
further before cs c t kept us vs r on m = record {
  lines = r.lines;
  blocks = r.blocks;
  whole = sym (append_assoc (joined r.lines) (c ∷ cs) (t ∷ [])) ∙ ap (λ l. l ++ t ∷ []) r.whole;
  first = r.first;
  begun = (r.begun.0, r.begun.1, open_more (c ∷ cs) t [] us vs c.line r.begun.2 on m);
}

-- a token that begins a logical line
another : (before current : List Placed) (t : Placed) (blocks kept : List ℕ) (vs : List OpenBracket) → Whole before current blocks
    → t.line ≢ last_line 0 current → BlocksBehind (ends_with_colon false current) t.column blocks kept
    → OpenBehindMark (mark_of t.token) t.line [] vs
    → Reached (before ++ t ∷ []) (t ∷ []) kept vs
another before current t blocks kept vs w off b m = record {
  lines = w.lines;
  blocks = blocks;
  whole = ap (λ l. l ++ t ∷ []) w.whole;
  first = w.first;
  begun = (
    λ e. off (e ∙ ap (last_line 0) w.last),
    subst (λ (l : List Placed). BlocksBehind (ends_with_colon false l) t.column blocks kept) (sym w.last) b,
    (λ e. refl, (vs, m, refl)),
  );
}

-- a text that is refused at its end
at_end_is : (before current : List Placed) (kept : List ℕ) (us : List OpenBracket) (n : ℕ) → Reached before current kept us
    → ended (standing current kept us) ≡ Err n → IsIndentFault before n
at_end_is before [] kept (u ∷ us) n r e = let none = r.begun.2 in absurd cc
at_end_is before (c ∷ cs) kept (u ∷ us) n r e =
    let same : u.line ≡ n = cc in
    never_closed r.lines r.blocks (c ∷ cs) u us r.whole r.first (r.begun.0, (kept, r.begun.1)) r.begun.2 (sym same)
at_end_is before current kept [] n r e =
    let w = closed_up before current kept r in
    let f = asked (ends_with_colon false current) (first_line current) n [] e in
    no_block w.lines kept w.whole w.first (ap (ends_with_colon false) w.last ∙ f.0) (f.1 ∙ sym (ap first_line w.last))
  where
    asked : (b : Bool) (first n : ℕ) (none : List ℕ) → (if b then Err first else Ok none) ≡ Err n → (b ≡ true) × (n ≡ first)
    asked true first n none e = (refl, let same : first ≡ n = cc in sym same)
    asked false first n none e = absurd cc

-- where a text is refused behind one token more
record Next (before : List Placed) (place : ℕ) (t : Placed) (ts : List Placed) (n : ℕ) : Type 0 where
  pub c : Placed
  pub cs : List Placed
  pub kept : List ℕ
  pub us : List OpenBracket
  pub reached : Reached (before ++ t ∷ []) (c ∷ cs) kept us
  pub refused : line_starts (place + 1) (standing (c ∷ cs) kept us) ts ≡ Err n

-- the state behind a token
stepped_to : (us : List Open) (m : Option Mark) (line : ℕ) (columns : List ℕ) (first : ℕ) (after : Layout)
    → (after_token us m line >>= λ unclosed. Ok (behind m line columns first unclosed)) ≡ Ok after
    → (o : List Open) × (after_token us m line ≡ Ok o) × (behind m line columns first o ≡ after)
stepped_to us m line columns first after e =
    let o = stepped (after_token us m line) _ after e in
    (o.0, o.1, let same : behind m line columns first o.0 ≡ after = cc in same)

-- a token that begins a logical line
step_first : (before current : List Placed) (kept : List ℕ) (place : ℕ) (t : Placed) (ts : List Placed) (n : ℕ) → Whole before current kept
    → starts (standing current kept []) t.line ≡ true → line_starts place (standing current kept []) (t ∷ ts) ≡ Err n
    → IsIndentFault (before ++ t ∷ ts) n ⊎ Next before place t ts n
step_first before current kept place t ts n w on e =
    let s = standing current kept [] in
    let m = mark_of t.token in
    let off : t.line ≢ last_line 0 current = (starts_off s t.line on).1 in
    let off_last : t.line ≢ last_line 0 (last_of [] w.lines) = λ e. off (e ∙ ap (last_line 0) w.last) in
    let whole : joined w.lines ++ t ∷ ts ≡ before ++ t ∷ ts = ap (λ l. l ++ t ∷ ts) w.whole in
    let turned = turn_first s m t.line t.column on in
    elim (refused_token place s t ts n e) [
      | inl f ↦ elim (refused_step (columns_at s t.line t.column) (newly s m t.line) n (sym turned ∙ f)) [
        | inl g ↦
            inl (wrong_column w.lines kept t ts whole w.first off_last
            (subst (λ (l : List Placed). IsColumnFault l kept t n) (sym w.last) (column_fault_is s current t n refl refl g)))
        | inr g ↦ elim (refused_step (after_token s.unclosed m t.line) (λ unclosed. Ok (behind m t.line g.0 t.line unclosed)) n g.2) [
          | inl a ↦
              let missed = misses_is m [] t.line n a in
              let placed = blocks_are s t.line t.column g.0 g.1 in
              inl (wrong_bracket w.lines kept [] t ts [] whole w.first
              (off_last, (g.0, subst (λ (l : List Placed). BlocksBehind (ends_with_colon false l) t.column kept g.0) (sym w.last) placed))
              refl (λ e. refl) missed.0 missed.1)
          | inr a ↦ let no = a.2 in absurd cc
        ]
      ]
      | inr g ↦
          let c = stepped (columns_at s t.line t.column) (newly s m t.line) g.0 (sym turned ∙ g.1) in
          let o = stepped_to s.unclosed m t.line c.0 t.line g.0 c.2 in
          let v = open_is m [] o.0 t.line o.1 in
          let same : g.0 ≡ standing (t ∷ []) c.0 v.0 = sym o.2 ∙ ap (behind m t.line c.0 t.line) v.1 in
          inr (record {
            c = t;
            cs = [];
            kept = c.0;
            us = v.0;
            reached = another before current t kept c.0 v.0 w off (blocks_are s t.line t.column c.0 c.1) v.2;
            refused = subst (λ (l : Layout). line_starts (place + 1) l ts ≡ Err n) same g.2;
          })
    ]

-- a state by its parts
abbrev state_of : List Open → List ℕ → Bool → ℕ → ℕ → Layout
state_of unclosed columns head first last = record { unclosed = unclosed; columns = columns; head = head; first = first; last = last }

-- a token in the middle of a logical line
step_middle : (before cs : List Placed) (c : Placed) (kept : List ℕ) (us : List OpenBracket) (place : ℕ) (t : Placed) (ts : List Placed) (n : ℕ)
    → Reached before (c ∷ cs) kept us
    → starts (standing (c ∷ cs) kept us) t.line ≡ false → line_starts place (standing (c ∷ cs) kept us) (t ∷ ts) ≡ Err n
    → IsIndentFault (before ++ t ∷ ts) n ⊎ Next before place t ts n
step_middle before cs c kept us place t ts n r off e =
    let s = standing (c ∷ cs) kept us in
    let m = mark_of t.token in
    let on : us ≡ [] → t.line ≡ last_line c.line cs = λ e. goes_on_line s t.line off (ap (λ l. kinds (all_held l)) e) in
    let whole : joined r.lines ++ (c ∷ cs ++ t ∷ ts) ≡ before ++ t ∷ ts =
    sym (append_assoc (joined r.lines) (c ∷ cs) (t ∷ ts)) ∙ ap (λ l. l ++ t ∷ ts) r.whole in
    let turned = turn_middle s m t.line t.column off in
    elim (refused_token place s t ts n e) [
      | inl f ↦ elim (refused_step (after_token s.unclosed m t.line) (λ unclosed. Ok (behind m t.line kept c.line unclosed)) n (sym turned ∙ f)) [
        | inl a ↦
            let missed = misses_is m us t.line n a in
            inl (wrong_bracket r.lines r.blocks (c ∷ cs) t ts us whole r.first (r.begun.0, (kept, r.begun.1)) r.begun.2 on missed.0 missed.1)
        | inr a ↦ let no = a.2 in absurd cc
      ]
      | inr g ↦
          let o = stepped_to s.unclosed m t.line kept c.line g.0 (sym turned ∙ g.1) in
          let v = open_is m us o.0 t.line o.1 in
          let as_line : behind m t.line kept c.line (all_held v.0) ≡ standing (c ∷ cs ++ t ∷ []) kept v.0 = standing_as cs c t kept v.0 in
          let same : g.0 ≡ standing (c ∷ cs ++ t ∷ []) kept v.0 = sym o.2 ∙ ap (behind m t.line kept c.line) v.1 ∙ as_line in
          inr (record {
            c = c;
            cs = cs ++ t ∷ [];
            kept = kept;
            us = v.0;
            reached = further before cs c t kept us v.0 r on v.2;
            refused = subst (λ (l : Layout). line_starts (place + 1) l ts ≡ Err n) same g.2;
          })
    ]
  where
    standing_as : (cs : List Placed) (c t : Placed) (kept : List ℕ) (vs : List OpenBracket)
        → behind (mark_of t.token) t.line kept c.line (all_held vs) ≡ standing (c ∷ cs ++ t ∷ []) kept vs
    standing_as cs c t kept vs =
        ap (λ b. state_of (all_held vs) kept b c.line t.line) (sym (colon_more cs t (is_colon (mark_of c.token))))
        ∙ ap (λ l. state_of (all_held vs) kept (ends_with_colon (is_colon (mark_of c.token)) (cs ++ t ∷ [])) c.line l) (sym (line_more cs t c.line))

-- one token more, wherever it stands
step : (before current : List Placed) (kept : List ℕ) (us : List OpenBracket) (place : ℕ) (t : Placed) (ts : List Placed) (n : ℕ)
    → (current ≡ [] → Numbered (t ∷ ts)) → Reached before current kept us → line_starts place (standing current kept us) (t ∷ ts) ≡ Err n
    → IsIndentFault (before ++ t ∷ ts) n ⊎ Next before place t ts n
step before current kept us place t ts n h r e = elim (either (starts (standing current kept us) t.line)) [
  | inl on ↦
      let none : us ≡ [] = none_held us (starts_off (standing current kept us) t.line on).0 in
      step_first before current kept place t ts n (closed_up before current kept (subst (λ (l : List OpenBracket). Reached before current kept l) none r))
      (subst (λ (l : List OpenBracket). starts (standing current kept l) t.line ≡ true) none on)
      (subst (λ (l : List OpenBracket). line_starts place (standing current kept l) (t ∷ ts) ≡ Err n) none e)
  | inr off ↦ in_line current h r e off
]
  where
    in_line : (current : List Placed) → (current ≡ [] → Numbered (t ∷ ts)) → Reached before current kept us
        → line_starts place (standing current kept us) (t ∷ ts) ≡ Err n → starts (standing current kept us) t.line ≡ false
        → IsIndentFault (before ++ t ∷ ts) n ⊎ Next before place t ts n
    in_line [] h r e off =
        let above : 0 < t.line = h refl in
        let on = starts_there (standing [] kept us) t.line (ap (λ l. kinds (all_held l)) r.begun.2) (λ z. absurd (omega arith)) in
        absurd cc
    in_line (c ∷ cs) h r e off = step_middle before cs c kept us place t ts n r off e

-- token by token
walk : (ts : List Placed) (before current : List Placed) (kept : List ℕ) (us : List OpenBracket) (place n : ℕ)
    → (current ≡ [] → Numbered ts) → Reached before current kept us → line_starts place (standing current kept us) ts ≡ Err n
    → IsIndentFault (before ++ ts) n
walk [] before current kept us place n h r e =
    subst (λ (l : List Placed). IsIndentFault l n) (sym (append-nil before))
    (at_end_is before current kept us n r (sym (at_end place (standing current kept us)) ∙ e))
walk (t ∷ ts) before current kept us place n h r e = elim (step before current kept us place t ts n h r e) [
  | inl f ↦ f
  | inr g ↦
      subst (λ (l : List Placed). IsIndentFault l n) (append_assoc before (t ∷ []) ts)
      (walk ts (before ++ t ∷ []) (g.c ∷ g.cs) g.kept g.us (place + 1) n (λ z. absurd cc) g.reached g.refused)
]

-- the fault that the pass finds is the first one of the relation
pub indent_fault_is : (ts : List Placed) (n : ℕ) → Numbered ts → line_starts 0 at_start ts ≡ Err n → IsIndentFault ts n
indent_fault_is ts n h e = walk ts [] [] [] [] 0 n (λ z. h) at_first e
  where
    at_first : Reached [] [] [] []
    at_first = record {
      lines = [];
      blocks = [];
      whole = refl;
      first = record { logical = tt; apart = tt; nested = refl };
      begun = (refl, refl, refl);
    }
