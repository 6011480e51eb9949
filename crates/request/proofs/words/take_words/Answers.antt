use Rattle.std.proofs.Common.{◌≡◌, ◌∙◌, Some, Err, map, sym, ap}
use Rattle.clap.specs.Words.{found_of, rows_of}
use Rattle.request.specs.declared.words.WordsStop.TheVariants.{Words}
use Rattle.request.proofs.CommandLemmas.{written-refused, written-taken, written-without, written_in-no_steps, written_in-no_workers, written_in-whole}
use Rattle.request.proofs.words.take_words.Goals as goal

pub returns-in-Err-clause-words_only : goal.returns-in-Err-clause-words_only
returns-in-Err-clause-words_only g c e =
    let same : c.in-Err.stop ≡ Words = cc in
    written-refused (map g.S.AsStr.text c.args.words.now) (c.in-Err.ensures.refused (ap (λ s. Err s) same))

pub returns-in_default-clause-words_only : goal.returns-in_default-clause-words_only
returns-in_default-clause-words_only g c e =
    let rows = rows_of (found_of c.in-Ok.matches) in
    written-without (map g.S.AsStr.text c.args.words.now) rows c.in-Ok.ensures.ok.0 c.in-Ok.ensures.ok.1
    (written_in-no_workers rows (sym c.in_default.ensures.value))

pub returns-in_default-steps-clause-words_only : goal.returns-in_default-steps-clause-words_only
returns-in_default-steps-clause-words_only g c e =
    let rows = rows_of (found_of c.in-Ok.matches) in
    written-without (map g.S.AsStr.text c.args.words.now) rows c.in-Ok.ensures.ok.0 c.in-Ok.ensures.ok.1
    (written_in-no_steps rows (sym c.in_default-steps.ensures.value))

pub returns-in-Ok-texts-clause-ok : goal.returns-in-Ok-texts-clause-ok
returns-in-Ok-texts-clause-ok g c =
    let rows = rows_of (found_of c.in-Ok.matches) in
    written-taken (map g.S.AsStr.text c.args.words.now) rows _ c.in-Ok.ensures.ok.0 c.in-Ok.ensures.ok.1
    (written_in-whole rows c.in-Some.workers c.in-Some-steps.steps (sym c.in-Some.ensures.value) (sym c.in-Some-steps.ensures.value)
    ∙ ap (λ ls. Some (record { workers = c.in-Some.workers; steps = c.in-Some-steps.steps; labels = ls })) (sym c.in-Ok-texts.ensures))
