-- What holds at each point of an evaluation.
use Rattle.std.proofs.Common.{◌≡◌, ℕ, ◌⊎◌, inl, inr, ⊎_elim, List, ◌∷◌, ◌++◌, refl, ap, ◌∙◌}
use Rattle.depsets.specs.Flat.{Among, nodes_of}
use Rattle.depsets.specs.Rose.{roses, label}
use Rattle.leaves.specs.declared.leaf.Leaf.TheVariants as plain
use Rattle.values.specs.declared.value.Value.TheVariants as value
use Rattle.one_tree.specs.Evaluations.{HoldsAtFirst, HoldsOfNew, HoldsOfTheSame, OutcomeIsMade}
use Rattle.one_tree.specs.Found.{Set, in_values, in_outcome, together}
use Rattle.one_tree.specs.Sets.{AreIn, next}
use Rattle.one_tree.proofs.Amidst.{among_cases, among_left, among_right, closed_together, nodes_in}
use Rattle.one_tree.proofs.News.{either_one, either_numbered, old_or_new}

both_known : (known ds : List Set) → AreIn ds known → AreIn (known ++ ds) known
both_known known ds i d h = ⊎_elim (λ p. p) (λ p. i d p) (among_cases d known ds h)

pub at_first : HoldsAtFirst
at_first owner known vs one fresh i =
    let b = both_known known (in_values vs) i in
    record {
      one = λ a c p q e. one a c (b a p) (b c q) e;
      numbered = λ d p e. absurd (fresh d (b d p) e);
      theirs = λ d p. inl (i d p);
    }

pub of_the_same : HoldsOfTheSame
of_the_same owner made known h g vs ws k i =
    let b : AreIn (known ++ together g ws) (known ++ together h vs) =
    λ d p. ⊎_elim (λ q. among_left d known (together h vs) q) (λ q. i d q) (among_cases d known (together g ws) p) in
    record {
      one = λ a c p q e. k.one a c (b a p) (b c q) e;
      numbered = λ d p e. k.numbered d (b d p) e;
      theirs = λ d p. ⊎_elim inl (λ q. k.theirs d q) (among_cases d known (together h vs) (i d p));
    }

new_is : (owner : List ℕ) (made : ℕ) (n d : Set) → (label n).id.owner ≡ owner → d ≡ n → (label d).id.owner ≡ owner
new_is owner made n d own e = ap (λ (t : Set). (label t).id.owner) e ∙ own

pub of_new : HoldsOfNew
of_new owner made known h vs o es ds k i =
    let n = next owner made o es ds in
    let split = old_or_new h vs n (nodes_of (roses ds)) refl (nodes_in ds (together h vs) (closed_together h vs) i) in
    let all : (d : Set) → Among d (known ++ together h (value.Leaf (plain.Depset n) ∷ vs)) → Among d (known ++ together h vs) ⊎ (d ≡ n) =
    λ d p. ⊎_elim (λ q. inl (among_left d known (together h vs) q))
    (λ q. ⊎_elim (λ r. inl (among_right d known (together h vs) r)) inr (split d q)) (among_cases d known (together h (value.Leaf (plain.Depset n) ∷ vs)) p) in
    record {
      one = λ a b p q e. either_one (known ++ together h vs) owner made o es ds k.one k.numbered a b (all a p) (all b q) e;
      numbered = λ d p own. either_numbered (known ++ together h vs) owner made o es ds k.one k.numbered d (all d p) own;
      theirs = λ d p. ⊎_elim (λ q. k.theirs d q) (λ q. inr (new_is owner made n d refl q)) (split d p);
    }

pub outcome_is_made : OutcomeIsMade
outcome_is_made owner made known h vs ts k i =
    let within : (d : Set) → Among d known ⊎ Among d (in_outcome ts) → Among d (known ++ together h vs) =
    λ d p. ⊎_elim (λ q. among_left d known (together h vs) q) (λ q. among_right d known (together h vs) (i d q)) p in
    record {
      together = λ a b p q e. k.one a b (within a p) (within b q) e;
      theirs = λ d p. ⊎_elim inl (λ own. inr (own, (k.numbered d (among_right d known (together h vs) (i d p)) own).0)) (k.theirs d (i d p));
    }
