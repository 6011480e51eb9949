use Rattle.std.proofs.Common.{◌≡◌, drop, max}
use Rattle.program_tree.specs.ProgramView.{terms, pairs, keywords, rounds}
use Rattle.program_tree.specs.Resolved as resolved
use Rattle.scopes.proofs.slots.+term_frames.Given as goal

-- the greatest so far and what is left give what all give
abbrev pub invariant-terms_slots-loop-term : goal.invariant-terms_slots-loop-term
invariant-terms_slots-loop-term l = max l.most (resolved.terms_slots (terms (drop l.term-index l.terms))) ≡ resolved.terms_slots (terms l.terms)

abbrev pub invariant-pairs_slots-loop-pair : goal.invariant-pairs_slots-loop-pair
invariant-pairs_slots-loop-pair l = max l.most (resolved.pairs_slots (pairs (drop l.pair-index l.pairs))) ≡ resolved.pairs_slots (pairs l.pairs)

abbrev pub invariant-arguments_slots-loop-argument : goal.invariant-arguments_slots-loop-argument
invariant-arguments_slots-loop-argument l = max l.most (resolved.keywords_slots (keywords (drop l.argument-index l.named))) ≡ resolved.keywords_slots (keywords l.named)

abbrev pub invariant-rounds_slots-loop-round : goal.invariant-rounds_slots-loop-round
invariant-rounds_slots-loop-round l = max l.most (resolved.rounds_slots (rounds (drop l.round-index l.rounds))) ≡ resolved.rounds_slots (rounds l.rounds)
