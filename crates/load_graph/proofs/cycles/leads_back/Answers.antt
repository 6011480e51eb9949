use Rattle.std.proofs.Common.{◌∙◌, sym, ap, nat_eq}
use Rattle.load_graph.proofs.Naming.{leads_none, leads_some}
use Rattle.load_graph.proofs.cycles.leads_back.Goals as goal

pub returns-in-Some : goal.returns-in-Some
returns-in-Some c =
    ap (λ x. nat_eq x c.args.own) c.number.ensures.number
    ∙ sym (leads_some c.args.paths.now c.args.components.now.numbers c.args.own c.args.load.now.target c.in-Some.n c.in-Some.ensures.paths (c.number.ensures.components.components.size ∙ c.requires.size) c.in-Some.ensures.value.0 c.in-Some.ensures.value.1)

pub returns-in-None : goal.returns-in-None
returns-in-None c = sym (leads_none c.args.paths.now c.args.components.now.numbers c.args.own c.args.load.now.target c.in-None.ensures.value)
