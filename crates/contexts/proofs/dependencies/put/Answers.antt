use Rattle.contexts.proofs.Placing.{first_put}
use Rattle.contexts.proofs.dependencies.put.Goals as goal

pub returns : goal.returns
returns c = first_put c.place_key.result c.args.label.now c.args.place c.args.places.now c.insert.new.self c.place_key.ensures c.in_ok-insert.ensures.updates
