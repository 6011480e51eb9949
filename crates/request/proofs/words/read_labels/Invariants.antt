use Rattle.std.proofs.Common.{◌≡◌, Some, map, take}
use Rattle.request.specs.Asked.{each_label}
use Rattle.request.proofs.words.read_labels.Given as goal

abbrev pub invariant-loop-text : goal.invariant-loop-text
invariant-loop-text l = each_label (map (λ s. s.now) (take l.text-index l.texts)) ≡ Some l.labels.items
