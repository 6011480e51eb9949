-- What `str` gives: the text of a value, which is visited from the outside in and from left to
-- right. (Starlark's specification, "str" and "repr"; ticks, depth, size and what has no text are
-- this project's own.)
use Rattle.std.specs.Prelude.{◌≡◌, MatchResult, ℕ, zero, suc, Bool, true, false, List, ◌++◌, length}
use Rattle.std.specs.Prelude.{Option, Some, None, Result, Ok, Err, if◌then◌else◌, nat_lt, codes}
use Rattle.depsets.specs.Listed.{flat}
use Rattle.ticks.specs.Ticking.{Count, Ticking, after_tick, then_on, with_count, entered, FaultOr}
use Rattle.values.specs.Visits.{all_of}
use Rattle.values.specs.Shape.{Shape, key, atom, items, entries, fields, nothing, shape}
use Rattle.leaf_texts.specs.Texts.{joined, leaf_text, key_text, entry_head, tuple_end}
use Rattle.leaves.specs.declared.leaf.Leaf.{Leaf}
use Rattle.leaves.specs.declared.leaf.Leaf.TheVariants as plain
use Rattle.keys.specs.declared.key.Key.{Key}
use Rattle.keys.specs.declared.key.Key.TheVariants as index
use Rattle.values.specs.declared.value.Value.{Value}
use Rattle.values.specs.declared.cells.Cell.{Cell}
use Rattle.ticks.specs.declared.ticks.TheConstants.{VISITED_LEVELS}
use Rattle.printing.specs.declared.reprs.TheConstants.{LARGEST_TEXT}
use Rattle.ticks.specs.declared.ticks.Broken.{Broken}
use Rattle.ticks.specs.declared.ticks.Kind.{Kind}
use Rattle.ticks.specs.declared.ticks.Kind.TheVariants.{Wrong, Deep, Large}

-- None, labels and Files have a text in the language, as keys have
abbrev pub has_text : Leaf → Bool
has_text plain.None = true
has_text (plain.Label s) = true
has_text (plain.File f) = true
has_text _ = false

-- the text of a leaf that has one, and `type` of any other
abbrev pub printed_leaf : Leaf → Result (List ℕ) Kind
printed_leaf l = if has_text l then Ok (leaf_text flat l) else Err Wrong

-- the visit of a key, and then the text of its value behind that of the key
abbrev pub printed_entry : (Count → Result Count Kind) → (Value → Count → Ticking (List ℕ))
    → Key × Value → Count → Ticking (List ℕ)
printed_entry visit print e c =
    after_tick (visit c) (λ d. then_on (print e.1 d) (λ t f. Ok (entry_head e.0 ++ t, f)))

-- how the text of a list or of a tuple begins
abbrev pub opening : Bool → List ℕ
opening true = codes "["
opening false = codes "("

-- and how it ends, of so many items
abbrev pub closing : Bool → ℕ → List ℕ
closing true n = codes "]"
closing false n = tuple_end n

-- the texts of parts, with commas between them
abbrev pub commas : Ticking (List (List ℕ)) → Ticking (List ℕ)
commas r = then_on r (λ ts d. Ok (joined ts, d))

-- a text between two others
abbrev pub enclosed : List ℕ → List ℕ → Ticking (List ℕ) → Ticking (List ℕ)
enclosed before behind r = then_on r (λ t d. Ok (before ++ t ++ behind, d))

-- The text of what a value shows. A key of a dict is visited before its value; instances have no
-- text here.
abbrev pub printed : (Count → Result Count Kind) → (Value → Count → Ticking (List ℕ)) → Shape
    → Count → Ticking (List ℕ)
printed visit print (key k) c = Ok (key_text k, c)
printed visit print (atom l) c = with_count (printed_leaf l) c
printed visit print (items j xs) c =
    enclosed (opening j) (closing j (length xs)) (commas (all_of print xs c))
printed visit print (entries es) c =
    enclosed (codes "{") (codes "}") (commas (all_of (printed_entry visit print) es c))
printed visit print (fields p xs) c = Err Wrong
printed visit print nothing c = Err Wrong

-- A value is one tick; then it is `deep` where no level is left; then its type decides.
unfoldable pub print_at : ℕ → List Cell → Value → Count → Ticking (List ℕ)
print_at zero h v c = after_tick (entered zero c) (λ d. Err Deep)
print_at (suc n) h v c =
    after_tick (entered (suc n) c) (λ d. printed (entered n) (print_at n h) (shape h v) d)

-- a string, unless it has too many bytes for one
abbrev pub fits : List ℕ → Result (List ℕ) Kind
fits s = if nat_lt LARGEST_TEXT (length s) then Err Large else Ok s

-- the string that a key is, if it is one
abbrev pub string_key : Key → Option (List ℕ)
string_key (index.Text s) = Some s
string_key _ = None

-- the string that a value is, if it is one
abbrev pub string_in : Shape → Option (List ℕ)
string_in (key k) = string_key k
string_in _ = None

-- the string, where there is one, in place of the text
abbrev pub itself : Option (List ℕ) → List ℕ → List ℕ
itself (Some s) t = s
itself None t = t

-- a string is itself, after its visit, and every other value its text
abbrev pub whole_at : ℕ → List Cell → Value → Count → Ticking (List ℕ)
whole_at n h v c = then_on (print_at n h v c) (λ t d. Ok (itself (string_in (shape h v)) t, d))

-- What `str` gives: all of the value is visited, and then it is `large` if it has too many bytes
-- for a string.
abbrev pub repr_of : List Cell → Value → Count → Ticking (List ℕ)
repr_of h v c = then_on (whole_at VISITED_LEVELS h v c) (λ t d. with_count (fits t) d)

-- a text behind another, unless both have too many bytes for a string
abbrev pub appended : List ℕ → Ticking (List ℕ) → Ticking (Result (List ℕ) Kind)
appended before r = then_on r (λ t d. Ok (fits (before ++ t), d))

-- A call that appends a text appends what the definition gives. What has too many bytes for a
-- string already may stay.
abbrev pub Prints : Ticking (List ℕ) → Result (Unit {0}) Broken → List ℕ → List ℕ → Count → Type 0
Prints r result old new now =
    MatchResult result (λ _. appended old r ≡ Ok (fits new, now)) (λ e. FaultOr r e)
