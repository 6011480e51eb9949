use Rattle.std.proofs.Common.{length, ◌≡◌, ◌∙◌, ◌+◌, ◌∷◌, ◌++◌, [], ℕ, List, Option, ap, drop, false, map, subst, sym, take, true}
use Rattle.std.proofs.lemmas.List.{drop_all, take-append-drop}
use Rattle.std.proofs.Math.Seq.{take-add}
use Rattle.grammar.specs.declared.statements.Line.{out-Line}
use Rattle.grammar.specs.BareLines.{Lines, a_line, no_lines}
use Rattle.grammar.specs.LineView.{form_in, form_of, line_of, lines}
use Rattle.program_tree.specs.Names.{Scope, among, form_binds, or_else, scope_of}
use Rattle.program_tree.specs.ProgramView.{onto}
use Rattle.file_syntax.specs.Scopes.{line_scoped, lines_fault, top_fault, unless}
use Rattle.syntax.specs.Resolves.{binds_anew}
use Rattle.syntax.proofs.DepthLemmas.{line_is}
use Rattle.syntax.proofs.ProgramLemmas.{lines_onto, onto_last, take_whole}
use Rattle.scopes.proofs.NameLemmas.{append_none, drop_at}
use Rattle.syntax.proofs.ScopeLemmas.{or_line, top_bound, top_rebound}
use Rattle.syntax.proofs.top.until_rebound.Goals as goal

pub returns-then-not-branch-clause-found : goal.returns-then-not-branch-clause-found
returns-then-not-branch-clause-found c s =
    let all = c.args.lines.now in
    let i = c.loop-place.place in
    let keys = c.loop-place.before.keys in
    let x = c.index-lines-place.result in
    let l = out-Line x in
    let rest = lines (drop (i + 1) all) in
    let told = subst (λ f. binds_anew keys (form_of f) ≡ false) c.deref.ensures (sym c.in_ok-binds_anew.ensures.told ∙ c.if-not-branch.true) in
    c.loop-place.invariant.0 s
    ∙ ap (λ ls. or_else (lines_fault s ls) (top_fault s keys (lines (drop i all)))) (lines_onto (map line_of (take i all)))
    ∙ ap (or_else (lines_fault s (lines (take i all))))
    (ap (λ d. top_fault s keys (lines d)) (drop_at all i x c.loop-place-test.true c.index-lines-place.is)
    ∙ ap (top_fault s keys) (line_is x rest)
    ∙ top_rebound s keys l.number (form_in l.form) (lines l.block.items) rest told)

pub loop-place-preserved : goal.loop-place-preserved
loop-place-preserved c =
    let all = c.args.lines.now in
    let i = c.loop-place.place in
    let keys = c.loop-place.before.keys in
    let new = c.binds_anew.new.before.keys in
    let x = c.index-lines-place.result in
    let l = out-Line x in
    let f = form_in l.form in
    let inner = lines l.block.items in
    let behind = lines (drop (i + 1) all) in
    let chain : (Lines → Lines) → Lines → Lines = λ f r. f r in
    let well = subst (λ g. binds_anew keys (form_of g) ≡ true) c.deref.ensures (sym c.in_ok-binds_anew.ensures.told ∙ c.if-not-branch.false) in
    let bound = subst (λ g. (n : List ℕ) → among n new ≡ among n (form_binds (form_of g) ++ keys)) c.deref.ensures
    (c.in_ok-binds_anew.ensures.bound c.if-not-branch.false) in
    let taken : take (i + 1) all ≡ take i all ++ x ∷ [] = take-add i 1 all ∙ ap (λ d. take i all ++ take 1 d) (drop_at all i x c.loop-place-test.true c.index-lines-place.is) in
    let more : (rest : Lines) → onto chain (map line_of (take (i + 1) all)) rest ≡ onto chain (map line_of (take i all)) (a_line l.number f inner rest) =
    λ rest.
    ap (λ xs. onto chain (map line_of xs) rest) taken
    ∙ onto_last chain line_of (take i all) x rest
    ∙ ap (onto chain (map line_of (take i all))) (line_is x rest) in
    let before : Scope → Option ℕ = λ s. lines_fault s (onto chain (map line_of (take i all)) no_lines) in
    let own : Scope → Option ℕ = λ s. unless l.number (line_scoped s f) in
    let block : Scope → Option ℕ = λ s. lines_fault (scope_of s f inner) inner in
    let next : (s : Scope) (rest : Lines) → lines_fault s (onto chain (map line_of (take (i + 1) all)) rest) ≡ or_else (before s) (or_else (own s) (or_else (block s) (lines_fault s rest))) =
    λ s rest. ap (lines_fault s) (more rest) ∙ c.loop-place.invariant.1 s (a_line l.number f inner rest) in
    let joins : (s : Scope) (t : Option ℕ) → or_else (before s) (or_else (own s) (or_else (block s) t)) ≡ or_else (lines_fault s (onto chain (map line_of (take (i + 1) all)) no_lines)) t =
    λ s t. sym (or_line (before s) (own s) (block s) t) ∙ ap (λ o. or_else o t) (sym (next s no_lines)) in (
      λ s.
          c.loop-place.invariant.0 s
          ∙ ap (or_else (before s))
          (ap (λ d. top_fault s keys (lines d)) (drop_at all i x c.loop-place-test.true c.index-lines-place.is)
          ∙ ap (top_fault s keys) (line_is x behind)
          ∙ top_bound s keys new l.number f inner behind well bound)
          ∙ joins s (top_fault s new behind),
      λ s rest. next s rest ∙ joins s (lines_fault s rest),
    )

pub returns-clause-found : goal.returns-clause-found
returns-clause-found c s =
    let all = c.args.lines.now in
    let i = c.loop-place.place in
    let none = drop_all i all c.loop-place-test.false in
    let whole = sym (append_none (take i all)) ∙ ap (λ d. take i all ++ d) (sym none) ∙ take-append-drop i all in
    c.loop-place.invariant.0 s
    ∙ ap (λ ls. or_else (lines_fault s ls) (top_fault s c.loop-place.before.keys (lines (drop i all)))) (lines_onto (map line_of (take i all)))
    ∙ ap (λ d. or_else (lines_fault s (lines d)) (top_fault s c.loop-place.before.keys (lines (drop i all)))) (whole ∙ sym (take_whole all))
    ∙ ap (λ d. or_else (lines_fault s (lines (take (length all) all))) (top_fault s c.loop-place.before.keys (lines d))) none

pub returns-clause-whole : goal.returns-clause-whole
returns-clause-whole c none = take_whole c.args.lines.now
