use Rattle.std.proofs.Common.{sym, ap, ◌∙◌}
use Rattle.std.specs.Prelude.{bytes_eq}
use Rattle.scopes.proofs.LevelLemmas.{none_set}
use Rattle.scopes.proofs.levels.set_slot.Goals as goal

pub returns-in_default : goal.returns-in_default
returns-in_default c =
    ap (λ m. m.entries) c.get_mut.follows.holds-at-none
    ∙ sym (none_set (bytes_eq c.args.name.now) c.args.slot c.args.slots.now.entries (sym c.in_default.ensures.value))
