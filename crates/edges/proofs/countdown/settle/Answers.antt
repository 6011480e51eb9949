use Rattle.std.proofs.Common.{◌≤◌, [], length, get_or, take, ap, arith, sym, nat_eq, rules}
use Rattle.std.proofs.lemmas.List.{append-nil, length-append}
use Rattle.edges.proofs.Turns.{enters, leaves, grows, all_done, user_node, user_some, user_counted}
use Rattle.edges.proofs.countdown.settle.Goals as goal

pub loop-user-init : goal.loop-user-init
loop-user-init c = record {
  counting = enters c.args.deps.now c.args.order.now.items c.args.left.now (take c.args.at c.args.order.now.items) (get_or c.args.order.now.items c.args.at 0) c.requires.counting;
  more = ([], sym (append-nil c.args.order.now.items));
}

pub lower-requires-clause-node : goal.lower-requires-clause-node
lower-requires-clause-node c =
    user_node c.args.deps.now c.requires.graph c.args.order.now.items c.args.left.now c.loop-user.order.items c.loop-user.left c.args.users.now c.args.at c.loop-user.user-index c.user-item.result
    c.requires.counting c.requires.turn c.requires.users c.loop-user-test.true c.user-item.is c.loop-user.invariant.more c.loop-user.invariant.counting

pub lower-requires-clause-some : goal.lower-requires-clause-some
lower-requires-clause-some c =
    user_some c.args.deps.now c.requires.graph c.args.order.now.items c.args.left.now c.loop-user.order.items c.loop-user.left c.args.users.now c.args.at c.loop-user.user-index c.user-item.result
    c.requires.counting c.requires.turn c.requires.users c.loop-user-test.true c.user-item.is c.loop-user.invariant.more c.loop-user.invariant.counting

pub loop-user-preserved : goal.loop-user-preserved
loop-user-preserved c = record {
  counting = user_counted c.args.deps.now c.requires.graph c.args.order.now.items c.args.left.now c.loop-user.order.items c.loop-user.left c.args.users.now c.args.at c.loop-user.user-index c.user-item.result
      c.requires.counting c.requires.turn c.requires.users c.loop-user-test.true c.user-item.is c.loop-user.invariant.more c.loop-user.invariant.counting
      c.lower.new.order.items c.lower.new.left c.in_ok-lower.ensures.order c.in_ok-lower.ensures.left;
  more = grows (nat_eq (get_or c.loop-user.left c.user-item.result 0) 1) c.args.order.now.items c.loop-user.order.items c.lower.new.order.items c.user-item.result c.loop-user.invariant.more c.in_ok-lower.ensures.order;
}

pub returns-clause-counting : goal.returns-clause-counting
returns-clause-counting c =
    let past : length c.args.users.now ≤ c.loop-user.user-index = omega (arith, c.loop-user-test.false) in
    leaves c.args.deps.now c.args.order.now.items c.loop-user.order.items c.loop-user.left c.args.users.now c.args.at (get_or c.args.order.now.items c.args.at 0) c.requires.turn (search rules) c.loop-user.invariant.more c.requires.users
    (all_done c.args.deps.now (take c.args.at c.args.order.now.items) c.loop-user.order.items c.loop-user.left c.args.users.now (get_or c.args.order.now.items c.args.at 0) c.loop-user.user-index past c.loop-user.invariant.counting)

pub returns-clause-more : goal.returns-clause-more
returns-clause-more c = omega (arith, ap length c.loop-user.invariant.more.1, length-append c.args.order.now.items c.loop-user.invariant.more.0)
