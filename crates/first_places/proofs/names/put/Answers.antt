use Rattle.first_places.proofs.Placing.{first_put}
use Rattle.first_places.proofs.names.put.Goals as goal

pub returns : goal.returns
returns c = first_put (λ q. q) c.in_ok-own.own c.args.name.now c.args.place c.args.places.now c.insert.new.self c.in_ok-own.ensures c.in_ok-insert.ensures.updates
