use Rattle.std.proofs.Common.{ℕ, get_or, ◌≢◌, ◌≡◌, ◌<◌, length, sym, ◌∙◌, subst, ap}
use Rattle.components.specs.declared.search.Place.TheVariants.{Unmet}
use Rattle.components.specs.Search.{place_of, IsSearch, IsSearchBut, IsFrom}
use Rattle.components.specs.Turns.{left, closed, work_of}
use Rattle.components.proofs.Following.{popped_keeps, popped_from, room_left}
use Rattle.components.proofs.Closing.{closing_keeps, closing_still, closing_work, path_inside}
use Rattle.components.proofs.search.Search.step.Goals as goal

pub follow-requires-clause-search : goal.follow-requires-clause-search
follow-requires-clause-search c =
    let v = c.args.self.now in
    let p = c.in-Some.ensures.some in
    subst (IsSearchBut c.args.deps.now (λ x. x ≡ c.in-Some.d)) (sym p.same)
    (popped_keeps c.args.deps.now v c.next_edge.new.self.waiting c.in-Some.d c.requires.search p.waits (room_left c.args.deps.now v c.args.start c.requires.search c.requires.last (length c.next_edge.new.self.waiting) c.in-Some.ensures.behind))

pub follow-requires-clause-from : goal.follow-requires-clause-from
follow-requires-clause-from c =
    let v = c.args.self.now in
    let p = c.in-Some.ensures.some in
    subst (λ w. IsFrom c.args.deps.now w c.in-Some.d) (sym p.same)
    (popped_from c.args.deps.now v c.next_edge.new.self.waiting c.in-Some.d c.requires.search p.waits (room_left c.args.deps.now v c.args.start c.requires.search c.requires.last (length c.next_edge.new.self.waiting) c.in-Some.ensures.behind))

pub close-requires-clause-inside : goal.close-requires-clause-inside
close-requires-clause-inside c =
    let v = c.args.self.now in
    let is = c.leave.ensures.same ∙ ap (left c.leave.new.self.starts) (c.next_edge.ensures.none c.in-None.is).0 in
    subst (λ w. (k d : ℕ) → k < length w.path → get_or w.path k d < length w.places) (sym is) (path_inside c.args.deps.now v c.requires.search)

pub returns-in_ok-close-in-None-clause-search : goal.returns-in_ok-close-in-None-clause-search
returns-in_ok-close-in-None-clause-search c =
    let v = c.args.self.now in
    let n = c.next_edge.ensures.none c.in-None.is in
    let rest = c.leave.new.self.starts in
    let starts = ap (λ w. w.starts) (sym n.0) ∙ c.leave.ensures.starts in
    let is = c.in_ok-close-in-None.ensures ∙ ap (closed c.args.start.nodes rest) (c.leave.ensures.same ∙ ap (left rest) n.0) in
    subst (IsSearch c.args.deps.now) (sym is) (closing_keeps c.args.deps.now v rest c.args.start c.requires.search starts n.1)

pub returns-in_ok-close-in-None-clause-met : goal.returns-in_ok-close-in-None-clause-met
returns-in_ok-close-in-None-clause-met c = λ m was.
    let v = c.args.self.now in
    let n = c.next_edge.ensures.none c.in-None.is in
    let rest = c.leave.new.self.starts in
    let starts = ap (λ w. w.starts) (sym n.0) ∙ c.leave.ensures.starts in
    let is = c.in_ok-close-in-None.ensures ∙ ap (closed c.args.start.nodes rest) (c.leave.ensures.same ∙ ap (left rest) n.0) in
    subst (λ w. place_of w.places m ≢ Unmet) (sym is) (closing_still c.args.deps.now v rest c.args.start c.requires.search starts n.1 m was)

pub returns-in_ok-close-in-None-clause-work : goal.returns-in_ok-close-in-None-clause-work
returns-in_ok-close-in-None-clause-work c =
    let v = c.args.self.now in
    let n = c.next_edge.ensures.none c.in-None.is in
    let rest = c.leave.new.self.starts in
    let starts = ap (λ w. w.starts) (sym n.0) ∙ c.leave.ensures.starts in
    let is = c.in_ok-close-in-None.ensures ∙ ap (closed c.args.start.nodes rest) (c.leave.ensures.same ∙ ap (left rest) n.0) in
    subst (λ w. work_of c.args.deps.now w < work_of c.args.deps.now v) (sym is) (closing_work c.args.deps.now v rest c.args.start c.requires.search starts n.1)
