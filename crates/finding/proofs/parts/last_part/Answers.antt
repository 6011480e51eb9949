use Rattle.std.proofs.Common.{[], drop, sym, ◌∙◌, arith}
use Rattle.std.proofs.lemmas.Str.Pattern.{NoCharPasses-char, drop_at_char}
use Rattle.finding.proofs.Names.{last_from, last_whole}
use Rattle.finding.proofs.parts.last_part.Goals as goal

pub returns-in-Some : goal.returns-in-Some
returns-in-Some c =
    let t = c.args.path.now in let h = c.in-Some.ensures.cases in
    let d = drop_at_char 47 t h.0 h.1 h.2.1 (omega arith) in
    h.4 ∙ sym (last_from [] t (drop h.1 t) h.0 d ∙ last_whole [] (drop h.1 t) (λ k l. NoCharPasses-char 47 (drop h.1 t) k h.2.0 (omega arith) l))

pub returns-in-None : goal.returns-in-None
returns-in-None c =
    sym (last_whole [] c.args.path.now (λ k l. NoCharPasses-char 47 c.args.path.now k c.in-None.ensures.cases (omega arith) l))
