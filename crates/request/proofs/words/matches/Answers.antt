use Rattle.std.proofs.Common.{◌≡◌, ◌∙◌, ap, sym, map, []}
use Rattle.clap.specs.Walk.{is_empty}
use Rattle.clap.specs.Words.{App, app_of, fault_of, is_simple, is_simple_and_free, matches_of}
use Rattle.request.specs.CommandLine.{command_line}
use Rattle.request.proofs.CommandLemmas.{command_line-free, command_line-simple, refusal_has_kinds}
use Rattle.request.proofs.words.matches.Goals as goal

pub returns-in-Ok-try_get_matches_from-clause-ok : goal.returns-in-Ok-try_get_matches_from-clause-ok
returns-in-Ok-try_get_matches_from-clause-ok g c =
    let words = map g.S.AsStr.text c.args.words.now in
    let app : app_of c.in-Ok.command ≡ command_line = c.in-Ok.ensures in
    let free : fault_of (app_of c.in-Ok.command) words ≡ [] = c.in-Ok-try_get_matches_from.ensures.kinds (ap is_simple_and_free app ∙ command_line-free) in
    let rows = (c.in-Ok-try_get_matches_from.ensures.matches (ap is_simple app ∙ command_line-simple)).0 in (
      ap (λ (a : App). is_empty (fault_of a words)) (sym app) ∙ ap is_empty free,
      rows ∙ ap (λ (a : App). matches_of a words) app,
    )

pub returns-clause-refused : goal.returns-clause-refused
returns-clause-refused g c _ =
    let words = map g.S.AsStr.text c.args.words.now in
    let app : app_of c.in-Ok.command ≡ command_line = c.in-Ok.ensures in
    let kinds = c.in-Err.ensures.kinds (ap is_simple_and_free app ∙ command_line-free) in
    ap (λ (a : App). is_empty (fault_of a words)) (sym app)
    ∙ refusal_has_kinds (fault_of (app_of c.in-Ok.command) words) c.in-Err.error kinds (λ e. c.in_default-kind.not-OutOfMemory (c.kind.ensures ∙ e))
