use Rattle.std.proofs.Common.{◌-◌, map, sym, ap, ◌∙◌, Ok, append-nil, arith}
use Rattle.lexer.specs.Scan.{scan, preceded, tokens_of}
use Rattle.lexer.specs.Seen.{seen}
use Rattle.lexer.proofs.ScanLemmas.{preceded_none, scan_end}
use Rattle.lexer.proofs.scan.tokens.Goals as goal

pub loop-cursor-init : goal.loop-cursor-init
unfolding tokens_of
loop-cursor-init c = (
  record { within = omega arith; on_line = omega arith; lines = omega arith },
  ap (λ ts. preceded (map (seen c.args.text.now) ts) (scan 0 1 0 c.args.text.now)) c.new-tokens.ensures.items
      ∙ preceded_none (scan 0 1 0 c.args.text.now),
)

pub returns-clause-value : goal.returns-clause-value
returns-clause-value c =
    let p = c.loop-cursor.cursor in
    let found = map (seen c.args.text.now) c.loop-cursor.tokens.items in
    sym c.loop-cursor.invariant.1
    ∙ ap (preceded found) (scan_end c.args.text.now p.at p.line (p.at - p.line_start) c.loop-cursor-test.false)
    ∙ ap Ok (append-nil found)
