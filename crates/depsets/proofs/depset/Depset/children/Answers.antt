use Rattle.std.proofs.Common.{sym, ap, ◌∙◌}
use Rattle.depsets.specs.Rose.{children, rose_list-roses}
use Rattle.depsets.proofs.depset.Depset.children.Goals as goal

pub returns : goal.returns
returns c =
    c.as_slice.ensures.value ∙ ap (λ n. n.children.items) c.deref.ensures ∙ sym (rose_list-roses _) ∙ ap children c.self.view_is
