-- Legal labels have an answer in each workspace: its files in the order of their paths, and the labels that are reached in the order of their
-- texts, each with what becomes of it.
use Rattle.std.proofs.Common.{◌≡◌, ◌∙◌, ◌<◌, ◌≤◌, ℕ, zero, suc, true, false, List, [], ◌∷◌, map, length, Contains, ap, sym, subst, refl, arith}
use Rattle.std.specs.List.{flat_map, AllByRecursion, IsDistinct}
use Rattle.std.specs.Cmp.Lexicographic.{slice_cmp}
use Rattle.std.specs.Ordering.{nat_cmp}
use Rattle.std.specs.declared.cmp.Ordering.TheVariants.{Less, Equal}
use Rattle.std.proofs.lemmas.Cmp.{nat_list_cmp_total, tied_itself}
use Rattle.std.proofs.lemmas.List.{length-map}
use Rattle.std.specs.Cmp.{decided}
use Rattle.std.proofs.lemmas.List.Sorted.{IsPermutation-refl}
use Rattle.std.proofs.lemmas.Map.Keys.{IsDistinct-cons}
use Rattle.std.proofs.lemmas.Map.Made.{length-le_from_is_member}
use Rattle.std.proofs.lemmas.Map.Views.{Contains-from_any, list_any-from_Contains}
use Rattle.std.proofs.lemmas.List.Elements.{All-from_recursion}
use Rattle.workspace.specs.Labels.{LabelParts, is_label, label_text, same_label}
use Rattle.workspace.specs.Workspaces.{IsWorkspace, Pair, paths_of}
use Rattle.edges.specs.Walks.{Walk}
use Rattle.edges.proofs.Tests.{isnt}
use Rattle.actions.specs.Ascending.{AreAscending, Each}
use Rattle.graph.specs.Reached.{IsReached}
use Rattle.targets.proofs.Facts.{same_label-decides}
use Rattle.outcomes.specs.Workspaces.{Workspace, declared, dependencies, outcome_of}
use Rattle.outcomes.proofs.Finite.{finite}
use Rattle.outcomes.proofs.Owners.{texts_apart}
use Rattle.reporting.specs.Answers.{Node}
use Rattle.loader.specs.Loaded.{AreFilesOf}
use Rattle.workspace_laws.specs.Files.{faults}
use Rattle.workspace_laws.specs.LabelLaws.{AreLegal}
use Rattle.workspace_laws.specs.Workspaces.{plain_workspace}
use Rattle.workspace_laws.proofs.LegalFiles.{dependencies_are_legal}
use Rattle.answers.specs.Answers.{Answer, IsAnswer, IsAnswerOf, labels_told}
use Rattle.answers.specs.Reports.{IsTooMany, node_limit}
use Rattle.answers.specs.Laws.{LabelsHaveAnAnswer, TooManyAreCounted}
use Rattle.answers.proofs.Alone.{plain_listed}
use Rattle.answers.proofs.Enumerated.{into_all, out_of_all, led_to, led_to-is, led_to-all}
use Rattle.answers.proofs.InOrder.{in_order, from_order, into_order, order_ascends, order_moved, ascending_sorted, ascending_distinct}
use Rattle.answers.proofs.OneAnswer.{comes_to, files_same, source_of}

-- the files of a workspace, in the order of their paths
module _ (workspace : List Pair) (legal : IsWorkspace workspace) where
  abbrev files : List Pair
  files = in_order (λ (p : Pair). p.0) workspace

  are_files : AreFilesOf workspace files
  are_files = record {
    all = order_moved (λ (p : Pair). p.0) workspace legal.distinct;
    ascending = record {
      sorted = ascending_sorted (paths_of files) (order_ascends (λ (p : Pair). p.0) workspace);
      distinct = ascending_distinct (paths_of files) (order_ascends (λ (p : Pair). p.0) workspace);
    };
  }

module _ (files : List Pair) (labels : List LabelParts) (limit : ℕ) (given : AreLegal labels) where
  abbrev w : Workspace
  w = plain_workspace files limit

  -- a walk from a legal label comes to legal ones alone
  walked : (n : ℕ) (a b : LabelParts) → is_label a ≡ true → Walk (dependencies w) n a b → is_label b ≡ true
  walked zero a b h e = subst (λ (l : LabelParts). is_label l ≡ true) e h
  walked (suc n) a b h c = walked n c.0 b (dependencies_are_legal files limit a c.0 c.1) c.2

  legal : (l : LabelParts) → IsReached (dependencies w) labels l → is_label l ≡ true
  legal l r = walked r.2.0 r.0 l (given r.0 r.1) r.2.1

  abbrev from : LabelParts → List LabelParts
  from = led_to same_label same_label-decides (dependencies w) (declared w) (finite w (plain_listed files limit))

  abbrev found : List LabelParts
  found = flat_map from labels

  reached_of : (l : LabelParts) → Contains found l → IsReached (dependencies w) labels l
  reached_of l h =
      let r = out_of_all from labels l h in
      (r.0, r.1, led_to-is same_label same_label-decides (dependencies w) (declared w) (finite w (plain_listed files limit)) r.0 l r.2)

  found_of : (l : LabelParts) → IsReached (dependencies w) labels l → Contains found l
  found_of l r =
      into_all from labels r.0 l r.1
      (led_to-all same_label same_label-decides (dependencies w) (declared w) (finite w (plain_listed files limit)) r.0 l r.2)

  abbrev told : List LabelParts
  told = in_order label_text found

  abbrev node : LabelParts → Node
  node l = record { label = l; outcome = outcome_of w l }

  abbrev label_of : Node → LabelParts
  label_of n = n.label

  texts_of : (ls : List LabelParts) → map (λ (n : Node). label_text n.label) (map node ls) ≡ map label_text ls
  texts_of [] = refl
  texts_of (l ∷ ls) = ap (λ (ts : List (List ℕ)). label_text l ∷ ts) (texts_of ls)

  outcomes_of : (ls : List LabelParts) → AllByRecursion (λ (n : Node). n.outcome ≡ outcome_of w n.label) (map node ls)
  outcomes_of [] = tt
  outcomes_of (l ∷ ls) = (refl, outcomes_of ls)

  is_told : (l : LabelParts) → Contains (map label_of (map node told)) l → IsReached (dependencies w) labels l
  is_told l h =
      let n = source_of label_of (map node told) l h in
      let m = source_of node told n.0 n.1 in
      reached_of l (subst (Contains found) (ap label_of m.2 ∙ n.2) (from_order label_text found m.0 m.1))

  all_told : (l : LabelParts) → IsReached (dependencies w) labels l → Contains (map label_of (map node told)) l
  all_told l r =
      comes_to label_of (map node told) (node l)
      (comes_to node told l
      (into_order label_text found (λ a b p q e. texts_apart a b (legal a (reached_of a p)) (legal b (reached_of b q)) e) l (found_of l r)))

  answer : (a : Answer) × IsAnswerOf files labels limit a
  answer = (
    record { faults = faults files limit; nodes = map node told },
    record {
      faults = refl;
      reached = λ l. (is_told l, all_told l);
      ordered = subst AreAscending (sym (texts_of told)) (order_ascends label_text found);
      outcomes = All-from_recursion (λ (n : Node). n.outcome ≡ outcome_of w n.label) (map node told) (outcomes_of told);
    },
  )

-- no two labels that are told are one
apart_from : (l : LabelParts) (ns : List Node) → Each (λ t. slice_cmp nat_cmp (label_text l) t ≡ Less) (map (λ (n : Node). label_text n.label) ns)
    → AllByRecursion (λ m. same_label l m ≡ false) (map (λ (n : Node). n.label) ns)
apart_from l [] each = tt
apart_from l (n ∷ ns) each = (
  isnt (same_label l n.label) (λ same.
      let one : l ≡ n.label = (same_label-decides l n.label).0 same in
      let less : slice_cmp nat_cmp (label_text l) (label_text l) ≡ Less =
      subst (λ (m : LabelParts). slice_cmp nat_cmp (label_text l) (label_text m) ≡ Less) (sym one) each.0 in
      let equal : Less ≡ Equal = sym less ∙ tied_itself nat_list_cmp_total (label_text l) in
      cc),
  apart_from l ns each.1,
)

labels_apart : (ns : List Node) → AreAscending (map (λ (n : Node). label_text n.label) ns) → IsDistinct same_label (map (λ (n : Node). n.label) ns)
unfolding IsDistinct
labels_apart [] up = tt
labels_apart (n ∷ ns) up =
    IsDistinct-cons same_label n.label (map (λ (m : Node). m.label) ns) (apart_from n.label ns up.0) (labels_apart ns up.1)

-- an answer of more labels than a report may have shows that too many are reached
too_many : (workspace : List Pair) (labels : List LabelParts) (limit : ℕ) (a : Answer) → IsAnswer workspace labels limit a → node_limit < length a.nodes
    → IsTooMany workspace labels limit
too_many workspace labels limit a this more = record {
  files = this.files;
  are_files = this.are_files;
  many = record {
    nodes = map (λ (n : Node). n.label) a.nodes;
    once = labels_apart a.nodes this.answers.ordered;
    reached = λ l. (this.answers.reached l).0;
    more = subst (λ (k : ℕ). node_limit < k) (sym (length-map a.nodes (λ (n : Node). n.label))) more;
  };
}

-- labels that stand once in a list are no more than those of another that has them all
distinct_within : (xs ys : List LabelParts) → IsDistinct same_label xs → ((l : LabelParts) → Contains xs l → Contains ys l) → length xs ≤ length ys
distinct_within xs ys once all =
    let laws = decided same_label same_label-decides in
    length-le_from_is_member laws xs ys once
    (λ l m. list_any-from_Contains laws l ys (all l (Contains-from_any (λ a b t. (same_label-decides a b).0 t) l xs m)))

-- and where too many are reached, each of them is told
told_many : (workspace : List Pair) (labels : List LabelParts) (limit : ℕ) (a : Answer) → IsAnswer workspace labels limit a
    → IsTooMany workspace labels limit → node_limit < length a.nodes
told_many workspace labels limit a this that =
    let same : this.files ≡ that.files =
    files_same workspace workspace this.files that.files (IsPermutation-refl workspace) this.are_files that.are_files in
    let here : IsAnswerOf that.files labels limit a = subst (λ fs. IsAnswerOf fs labels limit a) same this.answers in
    let told : (l : LabelParts) → Contains that.many.nodes l → Contains (labels_told a) l = λ l h. (here.reached l).1 (that.many.reached l h) in
    let long = distinct_within that.many.nodes (labels_told a) that.many.once told in
    let count = length-map a.nodes (λ (n : Node). n.label) in
    omega (arith, long, count, that.many.more)

pub labels_have_an_answer : LabelsHaveAnAnswer
labels_have_an_answer workspace labels limit is legal =
    let a = answer (files workspace is) labels limit legal in
    (a.0, record { files = files workspace is; are_files = are_files workspace is; answers = a.1 })

pub too_many_are_counted : TooManyAreCounted
too_many_are_counted workspace labels limit a this = (too_many workspace labels limit a this, told_many workspace labels limit a this)
