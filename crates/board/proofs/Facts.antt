-- The law in pieces, as the proofs of the steps use it: what is said of one journal stands in one record, and what is said of all in another.
use Rattle.std.proofs.Common.{◌≡◌, ℕ, ◌+◌, ◌<◌, ◌≤◌, true, List, [], ◌∷◌, length}
use Rattle.std.specs.Prelude.{slice_index}
use Rattle.board.specs.declared.journal.Journal.{Journal}
use Rattle.board.specs.Journal.{times, Each, deps, starts, readies, finishes, delivers, sets, missing, unfinished, AtMost, mark, count_word, halt_word}
use Rattle.board.specs.Lawful.{WorkFollowsStart, IsLawful}
use Rattle.board.proofs.JournalLists.{each_on}

-- what one journal says, beside all journals
pub record Fits (plan : List (List ℕ)) (words : List ℕ) (all : List Journal) (h : Journal) : Type 0 where
  pub own : WorkFollowsStart plan h
  pub least : AtMost (slice_index words (length plan)) h.least
  pub saw : h.saw ≡ true → slice_index words (length plan + 1) ≡ 1
  pub seen : (n : ℕ) → 0 < times n h.seen → 0 < starts n all

pub record Facts (plan : List (List ℕ)) (words : List ℕ) (hs : List Journal) : Type 0 where
  pub once_started : (n : ℕ) → starts n hs ≤ 1
  pub once_readied : (n : ℕ) → readies n hs ≤ 1
  pub once_finished : (n : ℕ) → finishes n hs ≤ 1
  pub once_delivered : (d u : ℕ) → delivers d u hs ≤ 1
  pub fits : Each (Fits plan words hs) hs
  pub waiting : (n : ℕ) → n < length plan → starts n hs ≡ 0 → slice_index words n ≡ missing hs n (deps plan n)
  pub marked : (n : ℕ) → n < length plan → 0 < starts n hs → slice_index words n ≡ mark
  pub complete : (n : ℕ) → 0 < starts n hs → missing hs n (deps plan n) ≡ 0
  pub ready : (n : ℕ) → 0 < length (deps plan n) → missing hs n (deps plan n) ≡ 0 → 0 < readies n hs
  pub readied : (n : ℕ) → 0 < readies n hs → missing hs n (deps plan n) ≡ 0
  pub count : slice_index words (length plan) ≡ unfinished hs (length plan)
  pub halt : slice_index words (length plan + 1) ≤ 1
  pub halt_set : 0 < sets hs → slice_index words (length plan + 1) ≡ 1
  pub set_halt : slice_index words (length plan + 1) ≡ 1 → 0 < sets hs

-- four lines of the law, journal by journal
fits_all : (plan : List (List ℕ)) (words : List ℕ) (all hs : List Journal) → Each (WorkFollowsStart plan) hs → Each (λ h. AtMost (count_word plan words) h.least) hs → Each (λ h. h.saw ≡ true → halt_word plan words ≡ 1) hs
    → Each (λ h. (n : ℕ) → 0 < times n h.seen → 0 < starts n all) hs → Each (Fits plan words all) hs
fits_all plan words all [] a b c d = tt
fits_all plan words all (h ∷ hs) a b c d = (record { own = a.0; least = b.0; saw = c.0; seen = d.0 }, fits_all plan words all hs a.1 b.1 c.1 d.1)

pub facts_of : (plan : List (List ℕ)) (words : List ℕ) (hs : List Journal) → IsLawful plan words hs → Facts plan words hs
facts_of plan words hs law = record {
  once_started = law.nothing_twice.started;
  once_readied = law.nothing_twice.readied;
  once_finished = law.nothing_twice.finished;
  once_delivered = law.nothing_twice.delivered;
  fits = fits_all plan words hs hs law.work_follows_start law.count_is_unfinished.least law.halt_is_one_once_set.saw law.seen_were_started;
  waiting = law.words_count_missing_edges.waiting;
  marked = law.words_count_missing_edges.started;
  complete = law.started_have_all_edges;
  ready = law.readied_with_last_edge.if_all;
  readied = law.readied_with_last_edge.only_if_all;
  count = law.count_is_unfinished.count;
  halt = law.halt_is_one_once_set.bit;
  halt_set = law.halt_is_one_once_set.set.1;
  set_halt = law.halt_is_one_once_set.set.0;
}

pub lawful_of : (plan : List (List ℕ)) (words : List ℕ) (hs : List Journal) → Facts plan words hs → IsLawful plan words hs
lawful_of plan words hs f = record {
  nothing_twice = record { started = f.once_started; readied = f.once_readied; finished = f.once_finished; delivered = f.once_delivered };
  work_follows_start = each_on (Fits plan words hs) (WorkFollowsStart plan) hs (λ h x. x.own) f.fits;
  words_count_missing_edges = record { waiting = f.waiting; started = f.marked };
  started_have_all_edges = f.complete;
  readied_with_last_edge = record { if_all = f.ready; only_if_all = f.readied };
  count_is_unfinished = record { count = f.count; least = each_on (Fits plan words hs) (λ h. AtMost (count_word plan words) h.least) hs (λ h x. x.least) f.fits };
  halt_is_one_once_set = record { bit = f.halt; set = (f.set_halt, f.halt_set); saw = each_on (Fits plan words hs) (λ h. h.saw ≡ true → halt_word plan words ≡ 1) hs (λ h x. x.saw) f.fits };
  seen_were_started = each_on (Fits plan words hs) (λ h. (n : ℕ) → 0 < times n h.seen → 0 < starts n hs) hs (λ h x. x.seen) f.fits;
}
