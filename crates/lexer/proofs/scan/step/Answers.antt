use Rattle.std.proofs.Common.{ℕ, ◌≡◌, ◌+◌, ◌-◌, ◌≤◌, List, [], ◌∷◌, ◌++◌, drop, map, refl, sym, ap, ◌∙◌, arith}
use Rattle.std.proofs.lemmas.List.{map-append}
use Rattle.lexer.specs.Scan.{scan, preceded}
use Rattle.lexer.specs.Seen.{seen, token_seen}
use Rattle.lexer.specs.Cursor.{left}
use Rattle.lexer.specs.Tokens.{Placed}
use Rattle.lexer.specs.declared.fault.FaultKind.TheVariants.{Token}
use Rattle.lexer.proofs.StopLemmas.{told}
use Rattle.lexer.proofs.ScanLemmas.{at_space, at_line_end, at_comment, at_token, at_nothing, passed, preceded_more}
use Rattle.lexer.proofs.scan.step.Goals as goal

pub returns-in-Space-clause-value : goal.returns-in-Space-clause-value
returns-in-Space-clause-value c =
    let p = c.args.cursor.now in
    let e : p.at - p.line_start + 1 ≡ p.at + 1 - p.line_start = omega (arith, c.requires.cursor.on_line) in
    ap (preceded (map (seen c.args.text.now) c.args.tokens.now.items))
    (sym (at_space c.args.text.now p.at p.line (p.at - p.line_start) c.requires.within c.in-Space.ensures.value
    ∙ ap (λ k. scan 0 p.line k (drop (p.at + 1) c.args.text.now)) e))

pub returns-in-LineEnd-clause-value : goal.returns-in-LineEnd-clause-value
returns-in-LineEnd-clause-value c =
    let p = c.args.cursor.now in
    let e : p.at + 1 - (p.at + 1) ≡ 0 = omega arith in
    ap (preceded (map (seen c.args.text.now) c.args.tokens.now.items))
    (ap (λ k. scan 0 (p.line + 1) k (drop (p.at + 1) c.args.text.now)) e
    ∙ sym (at_line_end c.args.text.now p.at p.line (p.at - p.line_start) c.requires.within c.in-LineEnd.ensures.value))

-- what follows a comment or a token, from the cursor behind it
after : (text : List ℕ) (at start n line : ℕ) → start ≤ at
    → scan 0 line (at + 1 + n - start) (drop (at + 1 + n) text) ≡ scan n line (at - start + 1) (drop (at + 1) text)
after text at start n line h =
    let e : at + 1 + n - start ≡ at - start + 1 + n = omega arith in
    ap (λ k. scan 0 line k (drop (at + 1 + n) text)) e ∙ sym (passed text at n line (at - start))

pub returns-in-Comment-clause-value : goal.returns-in-Comment-clause-value
returns-in-Comment-clause-value c =
    let p = c.args.cursor.now in
    ap (preceded (map (seen c.args.text.now) c.args.tokens.now.items))
    (after c.args.text.now p.at p.line_start c.in-Comment.more p.line c.requires.cursor.on_line
    ∙ sym (at_comment c.args.text.now p.at c.in-Comment.more p.line (p.at - p.line_start) c.requires.within c.in-Comment.ensures.value))

pub returns-in_ok-push-in-Token-clause-value : goal.returns-in_ok-push-in-Token-clause-value
returns-in_ok-push-in-Token-clause-value c =
    let p = c.args.cursor.now in
    let text = c.args.text.now in
    let before = map (seen text) c.args.tokens.now.items in
    let found : Placed = record { token = token_seen text c.in-Token.kind; line = p.line; column = p.at - p.line_start } in
    let rest = scan 0 p.line (p.at + 1 + c.in-Token.more - p.line_start) (drop (p.at + 1 + c.in-Token.more) text) in
    let pushed : map (seen text) c.push.new.self.items ≡ before ++ found ∷ [] =
    ap (map (seen text)) c.in_ok-push-in-Token.ensures.items ∙ map-append (seen text) c.args.tokens.now.items _ in
    ap (λ ts. preceded ts rest) pushed
    ∙ sym (preceded_more before (found ∷ []) rest)
    ∙ ap (λ r. preceded before (preceded (found ∷ []) r)) (after text p.at p.line_start c.in-Token.more p.line c.requires.cursor.on_line)
    ∙ ap (preceded before) (sym (at_token text p.at c.in-Token.more p.line (p.at - p.line_start) found.token c.requires.within c.in-Token.ensures.value))

pub returns-in-Nothing-clause-fault : goal.returns-in-Nothing-clause-fault
returns-in-Nothing-clause-fault c f e =
    let p = c.args.cursor.now in
    let meant = left c.args.text.now c.args.cursor.now c.args.tokens.now.items in
    let here = at_nothing c.args.text.now p.at p.line (p.at - p.line_start) c.requires.within c.in-Nothing.ensures.value in
    told meant p.line Token f _ (ap (preceded (map (seen c.args.text.now) c.args.tokens.now.items)) here) refl e
