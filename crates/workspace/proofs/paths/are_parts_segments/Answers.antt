use Rattle.std.proofs.Common.{lit<, rules, tests}
use Rattle.std.proofs.lemmas.Iterator.Search.{all_from_yields_List}
use Rattle.std.proofs.lemmas.Iterator.Splits.{YieldsList-from_str_split}
use Rattle.workspace.specs.Paths.{are_segments, is_segment}
use Rattle.workspace.proofs.paths.are_parts_segments.Goals as goal

pub returns : goal.returns
unfolding are_segments
returns c =
    all_from_yields_List is_segment _ _ _ c.all.ensures.ran
    (YieldsList-from_str_split 47 c.args.text.now (lit< tt) c.split.ensures.text c.split.ensures.has_more c.split.ensures.pattern)
    (λ x b q k. search (rules, tests))
