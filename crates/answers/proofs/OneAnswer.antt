-- What answers to labels of a workspace have in common: its files, in ascending order, are one list; a label that two tell has one outcome; and whoever tells all that is
-- asked for tells all that is reached. So there is one answer.
use Rattle.std.proofs.Common.{◌≡◌, ◌∙◌, ℕ, zero, suc, List, [], ◌∷◌, map, Contains, ap, refl, sym, subst, arith}
use Rattle.std.specs.List.Sorted.{IsPermutation}
use Rattle.std.proofs.lemmas.List.Elements.{All-contains}
use Rattle.std.proofs.lemmas.List.Sorted.{Contains-permutation, IsPermutation-sym}
use Rattle.workspace.specs.Labels.{LabelParts, label_text}
use Rattle.workspace.specs.Workspaces.{Pair, paths_of}
use Rattle.actions.proofs.Ascending.{sorted_ascends, ascending_same, head_in, tail_in}
use Rattle.outcomes.specs.Workspaces.{dependencies, outcome_of}
use Rattle.reporting.specs.Answers.{Node}
use Rattle.loader.specs.Loaded.{AreFilesOf}
use Rattle.workspace_laws.specs.Workspaces.{plain_workspace}
use Rattle.answers.specs.Answers.{Answer, IsAnswer, IsAnswerOf, labels_told}
use Rattle.answers.specs.Laws.{AreAmong, AskForTheSame, OthersChangeNothing, SayTheSame, WorkspacesHaveOneAnswer}
use Rattle.answers.proofs.Enumerated.{lead_on}

-- an element that a list of what elements come to has comes from one of them
pub source_of : {A B : Type 0} (f : A → B) (xs : List A) (y : B) → Contains (map f xs) y → (x : A) × Contains xs x × (f x ≡ y)
source_of f [] y (k, low, is) = absurd (omega (arith, low))
source_of f (x ∷ xs) y (zero, low, is) = (x, head_in x xs, is)
source_of f (x ∷ xs) y (suc k, low, is) =
    let later = source_of f xs y (k, omega (arith, low), is) in
    (later.0, tail_in x xs later.0 later.1, later.2)

-- what an element comes to is in the list of what elements come to
pub comes_to : {A B : Type 0} (f : A → B) (xs : List A) (x : A) → Contains xs x → Contains (map f xs) (f x)
comes_to f [] x (k, low, is) = absurd (omega (arith, low))
comes_to f (y ∷ xs) x (zero, low, is) = subst (λ z. Contains (map f (y ∷ xs)) (f z)) is (head_in (f y) (map f xs))
comes_to f (y ∷ xs) x (suc k, low, is) = tail_in (f y) (map f xs) (f x) (comes_to f xs x (k, omega (arith, low), is))

-- the files of both in ascending order
module _ (w v f g : List Pair) (moved : IsPermutation w v) (of_w : AreFilesOf w f) (of_v : AreFilesOf v g) where
  pub files_same : f ≡ g
  files_same =
      ascending_same (λ (p : Pair). p.0) f g (sorted_ascends (paths_of f) of_w.ascending.sorted of_w.ascending.distinct)
      (sorted_ascends (paths_of g) of_v.ascending.sorted of_v.ascending.distinct)
      (λ p h. Contains-permutation v g p of_v.all (Contains-permutation w v p moved (Contains-permutation f w p (IsPermutation-sym w f of_w.all) h)))
      (λ p h. Contains-permutation w f p of_w.all
      (Contains-permutation v w p (IsPermutation-sym w v moved) (Contains-permutation g v p (IsPermutation-sym v g of_v.all) h)))

module _ (files : List Pair) (limit : ℕ) where
  abbrev IsOf : Node → Type 0
  IsOf n = n.outcome ≡ outcome_of (plain_workspace files limit) n.label

  one_node : (m n : Node) → m.label ≡ n.label → IsOf m → IsOf n → m ≡ n
  one_node m n l p q =
      let out : m.outcome ≡ n.outcome = p ∙ ap (outcome_of (plain_workspace files limit)) l ∙ sym q in
      λ i. record { label = l i; outcome = out i }

  module _ (labels others : List LabelParts) (a b : Answer) (p : IsAnswerOf files labels limit a) (q : IsAnswerOf files others limit b) where
    one_told : (m n : Node) → Contains a.nodes m → Contains b.nodes n → m.label ≡ n.label → m ≡ n
    one_told m n h i l = one_node m n l (All-contains IsOf a.nodes m p.outcomes h) (All-contains IsOf b.nodes n q.outcomes i)

    pub told_too : AreAmong labels (labels_told b) → (n : Node) → Contains a.nodes n → Contains b.nodes n
    told_too all n h =
        let r = (p.reached n.label).0 (comes_to (λ (m : Node). m.label) a.nodes n h) in
        let s = (q.reached r.0).0 (all r.0 r.1) in
        let on = lead_on (dependencies (plain_workspace files limit)) s.2.0 s.0 r.0 n.label s.2.1 r.2 in
        let there = source_of (λ (m : Node). m.label) b.nodes n.label ((q.reached n.label).1 (s.0, s.1, on)) in
        subst (Contains b.nodes) (sym (one_told n there.0 h there.1 (sym there.2))) there.1

    say_the_same : SayTheSame labels a b
    say_the_same = record { faults = p.faults ∙ sym q.faults; outcomes = one_told; more = told_too }

    -- what is asked for is told
    all_told : AreAmong labels others → AreAmong labels (labels_told b)
    all_told among l h = (q.reached l).1 (l, among l h, (zero, refl))

  answer_same : (labels others : List LabelParts) → AskForTheSame labels others → (a b : Answer) → IsAnswerOf files labels limit a
      → IsAnswerOf files others limit b → a ≡ b
  answer_same labels others same a b p q =
      let faults : a.faults ≡ b.faults = p.faults ∙ sym q.faults in
      let nodes : a.nodes ≡ b.nodes =
      ascending_same (λ (n : Node). label_text n.label) a.nodes b.nodes p.ordered q.ordered
      (told_too labels others a b p q (all_told labels others a b p q same.0))
      (told_too others labels b a q p (all_told others labels b a q p same.1)) in
      λ i. record { faults = faults i; nodes = nodes i }

-- an answer over the files of one list is one over those of the other
module _ (w v : List Pair) (moved : IsPermutation w v) (labels others : List LabelParts) (limit : ℕ) (a b : Answer) (p : IsAnswer w labels limit a) (q : IsAnswer v others limit b) where
  pub over_same : IsAnswerOf q.files labels limit a
  over_same =
      subst (λ fs. IsAnswerOf fs labels limit a) (files_same w v p.files q.files moved p.are_files q.are_files) p.answers

pub workspaces_have_one_answer : WorkspacesHaveOneAnswer
workspaces_have_one_answer w v labels others limit a b moved same p q =
    answer_same q.files limit labels others same a b (over_same w v moved labels others limit a b p q) q.answers

pub others_change_nothing : OthersChangeNothing
others_change_nothing w v labels others limit a b moved p q =
    say_the_same q.files limit labels others a b (over_same w v moved labels others limit a b p q) q.answers

-- what is asked for is told
pub all_asked : (w : List Pair) (others : List LabelParts) (limit : ℕ) (b : Answer) → IsAnswer w others limit b → (labels : List LabelParts)
    → AreAmong labels others → AreAmong labels (labels_told b)
all_asked w others limit b q labels among l h = (q.answers.reached l).1 (l, among l h, (zero, refl))
