-- Small places, over which small files are run by computation: of a module, `provider()` alone, which makes a provider
-- without fields; of a BUILD file and of an implementation, nothing. And files as their trees.
use Rattle.std.specs.Prelude.{ℕ, ◌+◌, false, List, [], ◌∷◌, Some, Ok, Err}
use Rattle.program_tree.specs.Names.{Name}
use Rattle.program_tree.specs.Resolved.{Term, named, listing, invokes, selects, Terms, no_terms, more_terms, no_keywords, Statement, assign, Steps, no_steps, step}
use Rattle.meaning.specs.Names.{slot, global}
use Rattle.leaves.specs.declared.leaf.Leaf.{Leaf}
use Rattle.leaves.specs.declared.leaf.Leaf.TheVariants as plain
use Rattle.leaves.specs.declared.leaf.BuiltIn.TheVariants as built_in
use Rattle.leaves.specs.declared.leaf.ExportName.TheVariants as export
use Rattle.leaves.specs.declared.leaf.ProviderRef.TheVariants as provider
use Rattle.values.specs.declared.value.Value.{Value}
use Rattle.values.specs.declared.value.Value.TheVariants as value
use Rattle.ticks.specs.declared.ticks.Kind.TheVariants as kind
use Rattle.operations.specs.Arguments.{Given}
use Rattle.operations.specs.declared.state.State.{State}
use Rattle.language.specs.Place.{Does, Place}
use Rattle.evaluation.specs.Runs.{OfModule, OfBuild, OfTarget}

-- the provider that is the n-th of an evaluation
abbrev pub unnamed_provider : State → ℕ → Value
unnamed_provider s n =
    value.Leaf (plain.Provider (record {
      id = Some (record { «module» = s.file; number = n });
      name = provider.Exported (record { path = s.owner; name = export.Making n });
      fields = [];
    }))

abbrev pub call_in_module : Leaf → Given → Does ℕ Value
call_in_module (plain.BuiltIn built_in.Provider) g w =
    Ok (unnamed_provider w.state w.work, record w { work = w.work + 1 })
call_in_module _ g w = Err kind.Place

abbrev pub with_calls : {W : Type 0} → (Leaf → Given → Does W Value) → Place W
with_calls f =
    record {
      call = f;
      has_method = λ l x. false;
      method = λ l x g w. Err kind.Name;
      field = λ l x w. Err kind.Name;
      item = λ n v w. Err kind.Key;
      offers = λ n v w. Ok false;
    }

abbrev pub small_module : OfModule ℕ
small_module =
    record {
      place = λ known. with_calls call_in_module;
      first = 0;
      made = λ n. record { providers = n; rules = []; attributes = [] };
    }

abbrev pub small_build : OfBuild (Unit {0})
small_build =
    record {
      place = λ known path. with_calls (λ l g w. Err kind.Place);
      first = λ _. tt;
      declared = λ w. [];
    }

abbrev pub small_target : OfTarget (Unit {0})
small_target =
    record {
      place = λ known l t ds. with_calls (λ l g w. Err kind.Place);
      first = tt;
      files = λ w. [];
      actions = λ w. [];
    }

-- ---- files

-- statements at lines that count on from n
abbrev pub lines : ℕ → List Statement → Steps
lines n [] = no_steps
lines n (s ∷ ss) = step n s (lines (n + 1) ss)

abbrev pub terms : List Term → Terms
terms [] = no_terms
terms (e ∷ es) = more_terms e (terms es)

abbrev pub outer : ℕ → Term
outer n = named (global n)

abbrev pub local : ℕ → Term
local n = named (slot n)

abbrev pub list : List Term → Term
list es = listing (terms es)

abbrev pub sets : ℕ → Term → Statement
sets n e = assign (global n ∷ []) e

-- a call of something with no arguments, and of a method with one
abbrev pub calls : Term → Term
calls f = invokes f no_terms no_keywords

abbrev pub method : Term → Name → Term → Term
method f x e = invokes (selects f x) (terms (e ∷ [])) no_keywords
