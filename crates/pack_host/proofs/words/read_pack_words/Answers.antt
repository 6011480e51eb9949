use Rattle.std.proofs.Common.{◌≡◌, ◌∙◌, ap, ap₂, sym, map, Some, List, ℕ, Bool}
use Rattle.std.proofs.lemmas.Result.{err_from_is_err_and}
use Rattle.std.specs.Prelude.{codes, unwrap_or}
use Rattle.clap.specs.Words.{App, app_of, found_of, is_simple, matches_of, rows_of}
use Rattle.clap.proofs.WalkLemmas.{first_value-rows}
use Rattle.pack_host.specs.CommandLine.{Asked, command_line}
use Rattle.pack_host.proofs.WordsLemmas.{asked-refused, asked-taken, command_line-simple, faults-made, kinds-made, text_read}
use Rattle.pack_host.proofs.words.read_pack_words.Goals as goal

pub returns-clause-ok : goal.returns-clause-ok
returns-clause-ok g c =
    let words = map g.S.AsStr.text c.args.words.now in
    let found = found_of c.in_ok-matches.matches in
    let app : app_of c.in_ok-command.field-0 ≡ command_line = c.in_ok-command.ensures in
    let rows = (c.in_ok-matches.ensures.matches (ap is_simple app ∙ command_line-simple)).0 ∙ ap (λ (a : App). matches_of a words) app in
    let root = ap (λ s. s.now) c.unwrap_or.ensures ∙ text_read c.get_str.result _
    ∙ ap (λ o. unwrap_or o (codes ".")) (c.get_str.ensures ∙ first_value-rows found (codes "root")) in
    asked-taken words (rows_of found) (faults-made _ words app c.in_ok-matches.ensures.kinds) rows
    ∙ ap₂ (λ (r : List ℕ) (s : Bool). Some (let a : Asked = record { root = r; strict = s } in a)) (sym root) (sym c.is_set.ensures)

pub returns-clause-kinds : goal.returns-clause-kinds
returns-clause-kinds g c = faults-made _ (map g.S.AsStr.text c.args.words.now) c.in_ok-command.ensures c.in_ok-matches.ensures.kinds

pub returns-in_err-matches-clause-refused : goal.returns-in_err-matches-clause-refused
returns-in_err-matches-clause-refused g c =
    let words = map g.S.AsStr.text c.args.words.now in
    let kinds = kinds-made _ words c.in_err-matches.field-0.0 c.in_ok-command.ensures c.in_err-matches.ensures.kinds in
    let same = err_from_is_err_and c.from_residual-in_err-matches.result c.from_residual-in_err-matches.ensures.1 in
    rw (same.1, same.2) (asked-refused words c.in_err-matches.field-0.0 kinds)

pub returns-in_err-matches-clause-kinds : goal.returns-in_err-matches-clause-kinds
returns-in_err-matches-clause-kinds g c =
    let words = map g.S.AsStr.text c.args.words.now in
    let kinds = kinds-made _ words c.in_err-matches.field-0.0 c.in_ok-command.ensures c.in_err-matches.ensures.kinds in
    let same = err_from_is_err_and c.from_residual-in_err-matches.result c.from_residual-in_err-matches.ensures.1 in
    rw (same.1, same.2) kinds
