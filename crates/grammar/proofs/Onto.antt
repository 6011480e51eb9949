-- What members and clauses are together, where they are taken up one after the other.
use Rattle.std.proofs.Common.{◌≡◌, ℕ, max, Bool, true, false, List, [], ◌∷◌, ◌++◌, refl, sym, ap, ◌∙◌, arith}
use Rattle.std.specs.Prelude.{◌&&◌}
use Rattle.std.proofs.Math.Nat.{le-max_left, le-max_right, max-zero, zero-max}
use Rattle.std.proofs.Math.Bool.{and-true}
use Rattle.grammar.specs.Tree.{Expr, Member, plain, keyword, entry, Members, no_members, last_member, next_member, Clauses, no_clauses, for_clause, if_clause}
use Rattle.grammar.specs.Levels.{in_order, all_keywords}
use Rattle.grammar.specs.Depth.{depth, member_depth, members_depth, clauses_depth}
use Rattle.grammar.specs.Bare.{Tree, Trees, no_trees, more_trees, Entries, no_entries, more_entries, Keywords, no_keywords, more_keywords, Rest, done, for_each, only_if, bare, plain_of, keywords_of, entries_of, rest_of}
use Rattle.grammar.specs.TreeView as V
use Rattle.grammar.specs.Descent as D
use Rattle.grammar.proofs.Descends.{part_of}
use Rattle.grammar.proofs.Gathers.{onto, add_item, add_pair, add_argument, add_clauses, under_both}

pub max_assoc : (a b c : ℕ) → max (max a b) c ≡ max a (max b c)
max_assoc a b c =
    let bc = le-max_right a (max b c) in
    let ab = le-max_left (max a b) c in
    let l = under_both (max a b) c (max a (max b c))
    (under_both a b (max a (max b c)) (le-max_left a (max b c)) (let k = le-max_left b c in Prim.omega (arith, k, bc)))
    (let k = le-max_right b c in Prim.omega (arith, k, bc)) in
    let r = under_both a (max b c) (max (max a b) c)
    (let k = le-max_left a b in Prim.omega (arith, k, ab))
    (under_both b c (max (max a b) c) (let k = le-max_right a b in Prim.omega (arith, k, ab)) (le-max_right (max a b) c)) in
    Prim.omega (arith, l, r)

abbrev pub trees_onto : List Tree → Trees → Trees
trees_onto [] t = t
trees_onto (x ∷ xs) t = more_trees x (trees_onto xs t)

pub trees_base : (xs : List Tree) → V.trees_of xs ≡ trees_onto xs no_trees
trees_base [] = refl
trees_base (x ∷ xs) = ap (more_trees x) (trees_base xs)

pub trees_snoc : (xs : List Tree) (x : Tree) (t : Trees) → trees_onto (xs ++ x ∷ []) t ≡ trees_onto xs (more_trees x t)
trees_snoc [] x t = refl
trees_snoc (y ∷ xs) x t = ap (more_trees y) (trees_snoc xs x t)

abbrev entries_onto : List (Tree × Tree) → Entries → Entries
entries_onto [] t = t
entries_onto (x ∷ xs) t = more_entries x.0 x.1 (entries_onto xs t)

entries_base : (xs : List (Tree × Tree)) → V.entries_of xs ≡ entries_onto xs no_entries
entries_base [] = refl
entries_base (x ∷ xs) = ap (more_entries x.0 x.1) (entries_base xs)

entries_snoc : (xs : List (Tree × Tree)) (x : Tree × Tree) (t : Entries) → entries_onto (xs ++ x ∷ []) t ≡ entries_onto xs (more_entries x.0 x.1 t)
entries_snoc [] x t = refl
entries_snoc (y ∷ xs) x t = ap (more_entries y.0 y.1) (entries_snoc xs x t)

abbrev keywords_onto : List (List ℕ × Tree) → Keywords → Keywords
keywords_onto [] t = t
keywords_onto (x ∷ xs) t = more_keywords x.0 x.1 (keywords_onto xs t)

keywords_base : (xs : List (List ℕ × Tree)) → V.keywords_of xs ≡ keywords_onto xs no_keywords
keywords_base [] = refl
keywords_base (x ∷ xs) = ap (more_keywords x.0 x.1) (keywords_base xs)

keywords_snoc : (xs : List (List ℕ × Tree)) (x : List ℕ × Tree) (t : Keywords) → keywords_onto (xs ++ x ∷ []) t ≡ keywords_onto xs (more_keywords x.0 x.1 t)
keywords_snoc [] x t = refl
keywords_snoc (y ∷ xs) x t = ap (more_keywords y.0 y.1) (keywords_snoc xs x t)

abbrev rests_onto : List (Rest → Rest) → Rest → Rest
rests_onto [] t = t
rests_onto (f ∷ fs) t = f (rests_onto fs t)

rests_base : (fs : List (Rest → Rest)) → V.rests_of fs ≡ rests_onto fs done
rests_base [] = refl
rests_base (f ∷ fs) = ap f (rests_base fs)

rests_snoc : (fs : List (Rest → Rest)) (g : Rest → Rest) (t : Rest) → rests_onto (fs ++ g ∷ []) t ≡ rests_onto fs (g t)
rests_snoc [] g t = refl
rests_snoc (f ∷ fs) g t = ap f (rests_snoc fs g t)

items_onto : (ms : Members) (s : D.Several) → V.trees_of (onto add_item s ms).trees ≡ trees_onto s.trees (plain_of ms)
items_onto no_members s = trees_base s.trees
items_onto (last_member (plain a)) s = trees_base (s.trees ++ bare a ∷ []) ∙ trees_snoc s.trees (bare a) no_trees
items_onto (last_member (keyword x a)) s = trees_base s.trees
items_onto (last_member (entry k v)) s = trees_base s.trees
items_onto (next_member (plain a) ms) s = items_onto ms (D.with_item s (part_of a)) ∙ trees_snoc s.trees (bare a) (plain_of ms)
items_onto (next_member (keyword x a) ms) s = items_onto ms (add_item s (keyword x a))
items_onto (next_member (entry k v) ms) s = items_onto ms (add_item s (entry k v))

item_depth : (s : D.Several) (m : Member) → (add_item s m).depth ≡ max s.depth (member_depth m)
item_depth s (plain a) = refl
item_depth s (keyword x a) = refl
item_depth s (entry k v) = refl

pub items_depth : (ms : Members) (s : D.Several) → (onto add_item s ms).depth ≡ max s.depth (members_depth ms)
items_depth no_members s = sym (max-zero s.depth)
items_depth (last_member m) s = item_depth s m
items_depth (next_member m ms) s = items_depth ms (add_item s m) ∙ ap (λ d. max d (members_depth ms)) (item_depth s m) ∙ max_assoc s.depth (member_depth m) (members_depth ms)

pub items_are : (ms : Members) → V.trees_of (onto add_item D.no_items ms).trees ≡ plain_of ms
items_are ms = items_onto ms D.no_items

pub items_are_deep : (ms : Members) → (onto add_item D.no_items ms).depth ≡ members_depth ms
items_are_deep ms = items_depth ms D.no_items ∙ zero-max (members_depth ms)

pairs_onto : (ms : Members) (s : D.Pairs) → V.entries_of (onto add_pair s ms).entries ≡ entries_onto s.entries (entries_of ms)
pairs_onto no_members s = entries_base s.entries
pairs_onto (last_member (entry k v)) s = entries_base (s.entries ++ (bare k, bare v) ∷ []) ∙ entries_snoc s.entries (bare k, bare v) no_entries
pairs_onto (last_member (keyword x a)) s = entries_base s.entries
pairs_onto (last_member (plain a)) s = entries_base s.entries
pairs_onto (next_member (entry k v) ms) s = pairs_onto ms (D.with_pair s (part_of k, part_of v)) ∙ entries_snoc s.entries (bare k, bare v) (entries_of ms)
pairs_onto (next_member (keyword x a) ms) s = pairs_onto ms (add_pair s (keyword x a))
pairs_onto (next_member (plain a) ms) s = pairs_onto ms (add_pair s (plain a))

pair_depth : (s : D.Pairs) (m : Member) → (add_pair s m).depth ≡ max s.depth (member_depth m)
pair_depth s (plain a) = refl
pair_depth s (keyword x a) = refl
pair_depth s (entry k v) = refl

pub pairs_depth : (ms : Members) (s : D.Pairs) → (onto add_pair s ms).depth ≡ max s.depth (members_depth ms)
pairs_depth no_members s = sym (max-zero s.depth)
pairs_depth (last_member m) s = pair_depth s m
pairs_depth (next_member m ms) s = pairs_depth ms (add_pair s m) ∙ ap (λ d. max d (members_depth ms)) (pair_depth s m) ∙ max_assoc s.depth (member_depth m) (members_depth ms)

pub pairs_are : (ms : Members) → V.entries_of (onto add_pair D.no_pairs ms).entries ≡ entries_of ms
pairs_are ms = pairs_onto ms D.no_pairs

pub pairs_are_deep : (ms : Members) → (onto add_pair D.no_pairs ms).depth ≡ members_depth ms
pairs_are_deep ms = pairs_depth ms D.no_pairs ∙ zero-max (members_depth ms)

trees_of_arguments : (ms : Members) (s : D.Arguments) → V.trees_of (onto add_argument s ms).trees ≡ trees_onto s.trees (plain_of ms)
trees_of_arguments no_members s = trees_base s.trees
trees_of_arguments (last_member (plain a)) s = trees_base (s.trees ++ bare a ∷ []) ∙ trees_snoc s.trees (bare a) no_trees
trees_of_arguments (last_member (keyword x a)) s = trees_base s.trees
trees_of_arguments (last_member (entry k v)) s = trees_base s.trees
trees_of_arguments (next_member (plain a) ms) s = trees_of_arguments ms (add_argument s (plain a)) ∙ trees_snoc s.trees (bare a) (plain_of ms)
trees_of_arguments (next_member (keyword x a) ms) s = trees_of_arguments ms (add_argument s (keyword x a))
trees_of_arguments (next_member (entry k v) ms) s = trees_of_arguments ms (add_argument s (entry k v))

pub positional_are : (ms : Members) → V.trees_of (onto add_argument D.no_arguments ms).trees ≡ plain_of ms
positional_are ms = trees_of_arguments ms D.no_arguments

names_of_arguments : (ms : Members) (s : D.Arguments) → V.keywords_of (onto add_argument s ms).named ≡ keywords_onto s.named (keywords_of ms)
names_of_arguments no_members s = keywords_base s.named
names_of_arguments (last_member (plain a)) s = keywords_base s.named
names_of_arguments (last_member (keyword x a)) s = keywords_base (s.named ++ (x, bare a) ∷ []) ∙ keywords_snoc s.named (x, bare a) no_keywords
names_of_arguments (last_member (entry k v)) s = keywords_base s.named
names_of_arguments (next_member (plain a) ms) s = names_of_arguments ms (add_argument s (plain a))
names_of_arguments (next_member (keyword x a) ms) s = names_of_arguments ms (add_argument s (keyword x a)) ∙ keywords_snoc s.named (x, bare a) (keywords_of ms)
names_of_arguments (next_member (entry k v) ms) s = names_of_arguments ms (add_argument s (entry k v))

pub keywords_are : (ms : Members) → V.keywords_of (onto add_argument D.no_arguments ms).named ≡ keywords_of ms
keywords_are ms = names_of_arguments ms D.no_arguments

argument_depth : (s : D.Arguments) (m : Member) → (add_argument s m).depth ≡ max s.depth (member_depth m)
argument_depth s (plain a) = refl
argument_depth s (keyword x a) = refl
argument_depth s (entry k v) = refl

arguments_depth_onto : (ms : Members) (s : D.Arguments) → (onto add_argument s ms).depth ≡ max s.depth (members_depth ms)
arguments_depth_onto no_members s = sym (max-zero s.depth)
arguments_depth_onto (last_member m) s = argument_depth s m
arguments_depth_onto (next_member m ms) s = arguments_depth_onto ms (add_argument s m) ∙ ap (λ d. max d (members_depth ms)) (argument_depth s m) ∙ max_assoc s.depth (member_depth m) (members_depth ms)

pub arguments_depth : (ms : Members) → (onto add_argument D.no_arguments ms).depth ≡ members_depth ms
arguments_depth ms = arguments_depth_onto ms D.no_arguments ∙ zero-max (members_depth ms)

abbrev order_from : Bool → Members → Bool
order_from true ms = in_order ms
order_from false ms = all_keywords ms

some_named : (ks : List (List ℕ × Tree)) (k : List ℕ × Tree) → D.none_named (ks ++ k ∷ []) ≡ false
some_named [] k = refl
some_named (j ∷ ks) k = refl

all_in_order : (b : Bool) → order_from b no_members ≡ true
all_in_order true = refl
all_in_order false = refl

last_positional : (b : Bool) (a : Expr) → order_from b (last_member (plain a)) ≡ b
last_positional true a = refl
last_positional false a = refl

last_entry : (b : Bool) (k v : Expr) → order_from b (last_member (entry k v)) ≡ b
last_entry true k v = refl
last_entry false k v = refl

last_named : (b : Bool) (x : List ℕ) (a : Expr) → order_from b (last_member (keyword x a)) ≡ true
last_named true x a = refl
last_named false x a = refl

next_positional : (b c : Bool) (a : Expr) (ms : Members) → ((c && b) && order_from b ms) ≡ (c && order_from b (next_member (plain a) ms))
next_positional true true a ms = refl
next_positional true false a ms = refl
next_positional false true a ms = refl
next_positional false false a ms = refl

next_entry : (b c : Bool) (k v : Expr) (ms : Members) → ((c && b) && order_from b ms) ≡ (c && order_from b (next_member (entry k v) ms))
next_entry true true k v ms = refl
next_entry true false k v ms = refl
next_entry false true k v ms = refl
next_entry false false k v ms = refl

next_named : (b : Bool) (x : List ℕ) (a : Expr) (ms : Members) → order_from false ms ≡ order_from b (next_member (keyword x a) ms)
next_named true x a ms = refl
next_named false x a ms = refl

order_onto : (ms : Members) (s : D.Arguments) (b : Bool) → D.none_named s.named ≡ b → (onto add_argument s ms).in_order ≡ (s.in_order && order_from b ms)
order_onto no_members s b e = sym (and-true s.in_order) ∙ ap (λ x. s.in_order && x) (sym (all_in_order b))
order_onto (last_member (plain a)) s b e = ap (λ x. s.in_order && x) (e ∙ sym (last_positional b a))
order_onto (last_member (keyword x a)) s b e = sym (and-true s.in_order) ∙ ap (λ y. s.in_order && y) (sym (last_named b x a))
order_onto (last_member (entry k v)) s b e = ap (λ x. s.in_order && x) (e ∙ sym (last_entry b k v))
order_onto (next_member (plain a) ms) s b e = order_onto ms (add_argument s (plain a)) b e ∙ ap (λ x. (s.in_order && x) && order_from b ms) e ∙ next_positional b s.in_order a ms
order_onto (next_member (keyword x a) ms) s b e = order_onto ms (add_argument s (keyword x a)) false (some_named s.named (x, bare a)) ∙ ap (λ y. s.in_order && y) (next_named b x a ms)
order_onto (next_member (entry k v) ms) s b e = order_onto ms (add_argument s (entry k v)) b e ∙ ap (λ x. (s.in_order && x) && order_from b ms) e ∙ next_entry b s.in_order k v ms

pub order_is : (ms : Members) → (onto add_argument D.no_arguments ms).in_order ≡ in_order ms
order_is ms = order_onto ms D.no_arguments true refl

rests_of_clauses : (cs : Clauses) (s : D.Conditions) → V.rests_of (add_clauses s cs).clauses ≡ rests_onto s.clauses (rest_of cs)
rests_of_clauses no_clauses s = rests_base s.clauses
rests_of_clauses (for_clause x xs a cs) s = rests_of_clauses cs (D.with_for s x xs (part_of a)) ∙ rests_snoc s.clauses (for_each x xs (bare a)) (rest_of cs)
rests_of_clauses (if_clause a cs) s = rests_of_clauses cs (D.with_if s (part_of a)) ∙ rests_snoc s.clauses (only_if (bare a)) (rest_of cs)

pub clauses_are : (cs : Clauses) → V.rests_of (add_clauses D.no_conditions cs).clauses ≡ rest_of cs
clauses_are cs = rests_of_clauses cs D.no_conditions

clauses_depth_onto : (cs : Clauses) (s : D.Conditions) → (add_clauses s cs).depth ≡ max s.depth (clauses_depth cs)
clauses_depth_onto no_clauses s = sym (max-zero s.depth)
clauses_depth_onto (for_clause x xs a cs) s = clauses_depth_onto cs (D.with_for s x xs (part_of a)) ∙ max_assoc s.depth (depth a) (clauses_depth cs)
clauses_depth_onto (if_clause a cs) s = clauses_depth_onto cs (D.with_if s (part_of a)) ∙ max_assoc s.depth (depth a) (clauses_depth cs)

pub conditions_depth : (cs : Clauses) → (add_clauses D.no_conditions cs).depth ≡ clauses_depth cs
conditions_depth cs = clauses_depth_onto cs D.no_conditions ∙ zero-max (clauses_depth cs)
