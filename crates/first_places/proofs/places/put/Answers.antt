use Rattle.first_places.proofs.Placing.{first_put}
use Rattle.first_places.proofs.places.put.Goals as goal

pub returns : goal.returns
returns c = first_put (λ q. q.now) c.as_str.result c.args.name.now c.args.place c.args.places.now c.insert.new.self c.as_str.ensures c.in_ok-insert.ensures.updates
