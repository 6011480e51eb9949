-- The walk that visits no id twice. (docs/PROFILE.md, "Listing a depset"; this project's own.)
use Rattle.std.specs.Prelude.{ℕ, ◌+◌, Bool, cond, List, length}
use Rattle.depsets.specs.Rose.{Rose, Roses, node, none, more}
use Rattle.depsets.specs.Keys.{has, keep, keep_all}

-- how far a walk is: the ids of the depsets that it has left, the elements that it has taken, each
-- once, and the steps that it has made
pub record Walk (I E : Type 0) : Type 0 where
  pub seen : List I
  pub items : List E
  pub steps : ℕ

module _ {L I E : Type 0} (id : L → I) (direct : L → List E) (eqI : I → I → Bool)
    (eqE : E → E → Bool) where
  -- a step more
  abbrev pub step : Walk I E → Walk I E
  step s = record { seen = s.seen; items = s.items; steps = s.steps + 1 }

  -- the node's own elements taken, those that are there already left out, at a step for each
  abbrev pub take_own : L → Walk I E → Walk I E
  take_own x s = record {
    seen = s.seen;
    items = keep_all eqE s.items (direct x);
    steps = s.steps + length (direct x);
  }

  -- the node's id noted as seen, when it is left
  abbrev pub mark : L → Walk I E → Walk I E
  mark x s = record { seen = keep eqI s.seen (id x); items = s.items; steps = s.steps }

  abbrev mutual
    -- a visit of a node: none where its id was seen, else its own elements and its children, in
    -- preorder or in postorder, and then its mark
    pub visit : Bool → Rose L → Walk I E → Walk I E
    visit pre (node x ts) s =
        cond (has eqI s.seen (id x)) s
        (mark x (cond pre (visits pre ts (take_own x s)) (take_own x (visits pre ts s))))

    -- a visit of each of these in turn, with a step for the link to it
    pub visits : Bool → Roses L → Walk I E → Walk I E
    visits pre none s = s
    visits pre (more t ts) s = visits pre ts (visit pre t (step s))
