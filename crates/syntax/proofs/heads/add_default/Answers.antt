use Rattle.std.proofs.Common.{◌∙◌, ap, map, sym}
use Rattle.grammar.specs.LineView.{param_of}
use Rattle.grammar.specs.TreeView.{tree_of}
use Rattle.program_tree.specs.ProgramView as view
use Rattle.program_tree.specs.ProgramView.{terms_onto}
use Rattle.program_tree.specs.Resolved.{more_terms, term, with_default}
use Rattle.file_syntax.specs.Scopes.{param_scoped, scoped}
use Rattle.syntax.proofs.ProgramLemmas.{onto_last}
use Rattle.syntax.proofs.heads.add_default.Goals as goal

pub returns-in_ok-push-in-Optional : goal.returns-in_ok-push-in-Optional
returns-in_ok-push-in-Optional c =
    let s = c.args.scope.now in
    let found = c.args.found.now.items in
    record {
      kept = (
        ap (λ p. param_scoped s (param_of p)) c.in-Optional.is ∙ ap (λ e. scoped s (tree_of e)) (sym c.deref.ensures)
            ∙ c.in_ok-value-in-Optional.ensures.0,
        c.in_ok-value-in-Optional.ensures.2,
      );
      found = λ r.
          ap (λ ts. terms_onto (map view.term ts) r) c.in_ok-push-in-Optional.ensures.items
          ∙ onto_last more_terms view.term found c.in_ok-value-in-Optional.value r
          ∙ ap (λ t. terms_onto (map view.term found) (more_terms t r)) c.in_ok-value-in-Optional.ensures.1
          ∙ ap (λ e. terms_onto (map view.term found) (more_terms (term s (tree_of e)) r)) c.deref.ensures
          ∙ ap (λ p. terms_onto (map view.term found) (with_default s (param_of p) r)) (sym c.in-Optional.is);
    }
