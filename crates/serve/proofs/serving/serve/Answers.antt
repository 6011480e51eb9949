use Rattle.std.proofs.Common.{◌≡◌, ap, inl, List, ℕ, Err, map, arith}
use Rattle.std.proofs.KnownBytes.{Consumes-whole}
use Rattle.request.specs.Asked.{asked_by}
use Rattle.serve.specs.Requests.{SpellsNothing, WritesAnswer}
use Rattle.serve.specs.declared.stops.ServeStop.TheVariants.{Input}
use Rattle.serve.proofs.serving.serve.Goals as goal

pub returns-in-Err-clause-input_only : goal.returns-in-Err-clause-input_only
returns-in-Err-clause-input_only g c e =
    let same : c.in-Err.stop ≡ Input = cc in
    Consumes-whole _ _ c.in-Ok-read_input.input.items SpellsNothing c.in-Ok-read_input.ensures.whole c.in-Ok-read_input.ensures.end
    (c.in-Err.ensures.input_only (ap (λ s. Err s) same))

pub returns-in-Err-clause-input_refused : goal.returns-in-Err-clause-input_refused
returns-in-Err-clause-input_refused g c e = record {
  input = c.in-Ok-read_input.input.items;
  taken = c.in-Ok-read_input.ensures.whole;
  read = inl c.in-Ok-read_input.ensures.end;
  most = let few = c.in-Ok-read_input.ensures.limit in omega (arith, few);
  refused =
      let same : c.in-Err.stop ≡ Input = cc in
      c.in-Err.ensures.input_only (ap (λ s. Err s) same);
}

pub returns-in-Ok-write_parts-clause-ok : goal.returns-in-Ok-write_parts-clause-ok
returns-in-Ok-write_parts-clause-ok g c =
    Consumes-whole _ _ c.in-Ok-read_input.input.items
    (λ (input : List ℕ). WritesAnswer (map g.W.AsStr.text c.args.words.now) input (g.K.Sink.contents c.args.writer.now) (g.K.Sink.contents c.write_parts.new.sink) c.in-Ok-report_of.report.loud)
    c.in-Ok-read_input.ensures.whole c.in-Ok-read_input.ensures.end
    (record {
      answer = c.in-Ok-report_of.ensures.ok.2.answer;
      answered = record {
        asked = asked_by c.in-Ok.request;
        workspace = c.in-Ok-report_of.ensures.ok.0;
        words_part = c.in-Ok.ensures.ok;
        input_part = c.in-Ok-report_of.ensures.ok.1;
        answers = c.in-Ok-report_of.ensures.ok.2.answers;
        few = c.in-Ok-report_of.ensures.ok.2.few;
      };
      written = rw (c.deref.ensures.value, c.in-Ok-report_of.ensures.ok.2.told) at c.in-Ok-write_parts.ensures.ok;
      is_loud = c.in-Ok-report_of.ensures.ok.2.loud;
    })
