-- Each depset stands in the outcome of the node that made it, so the coherence of each outcome is that of all.
use Rattle.std.proofs.Common.{◌≡◌, ◌≢◌, ℕ, zero, suc, ◌⊎◌, inl, inr, Bool, true, false, List, length, Contains, sym, ap, ◌∙◌, subst, refl, Decides, true≢false, arith}
use Rattle.std.specs.List.{list_any}
use Rattle.edges.specs.Walks.{Walk, Cyclic, goes_on, is_cyclic}
use Rattle.edges.proofs.Tests.{cases_of}
use Rattle.edges.proofs.Cycles.{ends_next, ends_apart, cyclic_from_test}
use Rattle.coherence.specs.Coherent.{Depsets, AreCoherent, AreFresh}
use Rattle.coherence.specs.Together.{Graph, given, EachKeeps, AllCoherent}

module _ {N V D I O : Type 0} (g : Graph N V D I O) where
  abbrev Alike : Depsets D → Type 0
  Alike S = AreCoherent g.id g.owner S

  -- the node behind t that made a depset, and still has it
  record Made (t : N) (d : D) : Type 0 where
    at : N
    edges : ℕ
    walk : Walk g.deps edges t at
    named : g.named at
    own : g.owner (g.id d) ≡ g.name at
    inside : g.has (g.out at) d
    alike : Alike (g.has (g.out at))

  abbrev Home : N → D → Type 0
  Home t d = g.base d ⊎ Made t d

  -- every depset of a node's outcome has a home behind it
  abbrev Lives : N → Type 0
  Lives t = (d : D) → g.has (g.out t) d → Home t d

  module _ (each : EachKeeps g) where
    base_or_made : (t : N) (a b : D) → g.base a → Made t b → g.owner (g.id a) ≡ g.owner (g.id b) → ⊥
    base_or_made t a b h m e = each.base_apart m.at m.named a h (e ∙ m.own)

    -- depsets with homes are alike
    same_home : (t u : N) (a b : D) → Home t a → Home u b → g.id a ≡ g.id b → a ≡ b
    same_home t u a b (inl h) (inl k) e = each.base_coherent a b h k e
    same_home t u a b (inl h) (inr k) e = absurd (base_or_made u a b h k (ap g.owner e))
    same_home t u a b (inr h) (inl k) e = absurd (base_or_made t b a k h (ap g.owner (sym e)))
    same_home t u a b (inr h) (inr k) e =
        let one : h.at ≡ k.at = each.names h.at k.at h.named k.named (sym h.own ∙ (ap g.owner e ∙ k.own)) in
        h.alike a b h.inside (subst (λ n. g.has (g.out n) b) (sym one) k.inside) e

    later : (t u : N) (d : D) → Contains (g.deps t) u → Home u d → Home t d
    later t u d c (inl h) = inl h
    later t u d c (inr h) = inr (record { at = h.at; edges = suc h.edges; walk = (u, c, h.walk); named = h.named; own = h.own; inside = h.inside; alike = h.alike })

    module _ (t : N) (live : (u : N) → Contains (g.deps t) u → Lives u) where
      given_home : (d : D) → given g t d → Home t d
      given_home d (inl h) = inl h
      given_home d (inr h) = later t h.0 d h.1 (live h.0 h.1 d h.2)

      given_alike : Alike (given g t)
      given_alike a b h k e = same_home t t a b (given_home a h) (given_home b k) e

      module _ (n : g.named t) where
        -- what t made, and is given, closes a walk from t to t: so t is cyclic, and made nothing
        home_fresh : (u : N) (a : D) → Contains (g.deps t) u → Home u a → g.owner (g.id a) ≢ g.name t
        home_fresh u a c (inl h) e = each.base_apart t n a h e
        home_fresh u a c (inr h) e =
            let back : h.at ≡ t = each.names h.at t h.named n (sym h.own ∙ e) in
            each.cyclic t (t, (0, refl), (h.edges, (u, c, subst (Walk g.deps h.edges u) back h.walk))) a (subst (λ v. g.has (g.out v) a) back h.inside)

        given_fresh : AreFresh g.id g.owner (g.name t) (given g t)
        given_fresh a (inl h) e = each.base_apart t n a h e
        given_fresh a (inr h) e = home_fresh h.0 a h.1 (live h.0 h.1 a h.2) e

      lives_next : (Cyclic g.deps t → ⊥) → Lives t
      lives_next apart d i = elim (each.others t apart) [
        | inl keeps ↦
            let kept = keeps.1 given_alike (given_fresh keeps.0) in
            elim (kept.theirs d i) [
              | inl older ↦ given_home d older
              | inr own ↦ inr (record { at = t; edges = 0; walk = refl; named = keeps.0; own = own; inside = i; alike = λ a b j k e. kept.together a b (inr j) (inr k) e })
            ]
        | inr bare ↦ absurd (bare d i)
      ]

    lives_within : (m : ℕ) (t : N) → goes_on g.deps m t ≡ false → Lives t
    lives_within zero t ends = absurd (true≢false ends)
    lives_within (suc m) t ends = lives_next t (λ u c. lives_within m u (ends_next g.deps m t u c ends)) (ends_apart g.deps (suc m) t ends)

    module _ (same : N → N → Bool) (decides : (a b : N) → Decides (same a b) (a ≡ b)) (listed : List N) (finite : (t d : N) → Contains (g.deps t) d → list_any (same t) listed ≡ true) where
      lives : (t : N) → Lives t
      lives t = elim (cases_of (is_cyclic g.deps (length listed) t)) [
        | inl holds ↦ (λ d i. absurd (each.cyclic t (cyclic_from_test g.deps same decides listed (length listed) (omega arith) finite t holds) d i))
        | inr fails ↦ lives_within (suc (length listed)) t fails
      ]

      all_alike : Alike (λ d. g.base d ⊎ ((t : N) × g.has (g.out t) d))
      all_alike a b (inl h) (inl k) e = each.base_coherent a b h k e
      all_alike a b (inl h) (inr j) e = same_home j.0 j.0 a b (inl h) (lives j.0 b j.1) e
      all_alike a b (inr i) (inl k) e = same_home i.0 i.0 a b (lives i.0 a i.1) (inl k) e
      all_alike a b (inr i) (inr j) e = same_home i.0 j.0 a b (lives i.0 a i.1) (lives j.0 b j.1) e

      owned : (t : N) (d : D) → Home t d → g.base d ⊎ ((o : N) × g.named o × (g.owner (g.id d) ≡ g.name o))
      owned t d (inl h) = inl h
      owned t d (inr h) = inr (h.at, h.named, h.own)

      pub all_together : AllCoherent g
      all_together = record {
        coherent = all_alike;
        fresh = λ t n. given_fresh t (λ u c. lives u) n;
        owned = λ t d i. owned t d (lives t d i);
      }
