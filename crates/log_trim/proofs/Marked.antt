-- Marks stand for the numbers of lines.
use Rattle.std.proofs.Common.{◌≡◌, ◌≢◌, ℕ, zero, suc, ◌+◌, ◌-◌, ◌<◌, ◌≤◌, ◌⊎◌, inl, inr, Bool, true, false, ◌||◌, ◌==◌, List, [], ◌∷◌, ◌++◌, length, map, drop, take, replicate, slice_get, slice_set, slice_index_or, Some, refl, sym, ap, ◌∙◌, arith}
use Rattle.std.specs.List.{flat_map}
use Rattle.std.proofs.lemmas.Bool.Decides.{nat_tests}
use Rattle.std.proofs.lemmas.List.{drop_all, flat_map_more, map_more, get_or-set_same, get_or-set_other, length-set, length-replicate, get_or-replicate}
use Rattle.std.proofs.lemmas.List.FromFn.{fill_by_all, get_or-map-range_with_len, length-map-range_with_len}
use Rattle.dsa_terms.specs.Claims.{IsIn}
use Rattle.dsa_terms.specs.Logs.{Cite, Line, Log}
use Rattle.dsa_terms.specs.Parts.{has}
use Rattle.dsa_trim_laws.specs.Trimmed.{cited, cited_line, needed, needed_from, with_cited}
use Rattle.dsa_terms.proofs.Lists.{left_append, right_append}
use Rattle.dsa_terms.proofs.NumberTests.{apart, same_or_not}
use Rattle.dsa_trim_laws.proofs.Picked.{get_in}
use Rattle.dsa_trim_laws.proofs.Trims.{get_some}
use Rattle.log_trim.specs.Marks.{AreMarkedToo, marks_of}

-- ---- marks
pub length-marks : (n : ℕ) (ks : List ℕ) → length (marks_of n ks) ≡ n
unfolding marks_of
length-marks n ks = length-map-range_with_len (λ k. has k ks) 0 n

mark_at : (n : ℕ) (ks : List ℕ) (k : ℕ) (d : Bool) → k < n → slice_index_or (marks_of n ks) k d ≡ has k ks
unfolding marks_of
mark_at n ks k d lt = get_or-map-range_with_len (λ k. has k ks) 0 n k k d lt (omega arith)

-- what a mark says
pub mark_says : (log : Log) (marks : List Bool) (k : ℕ) (b : Bool) → marks ≡ marks_of (length log.lines) (needed log) →
    k < length log.lines → slice_index_or marks k false ≡ b → has k (needed log) ≡ b
mark_says log marks k b e lt h = sym (mark_at (length log.lines) (needed log) k false lt) ∙ rw e at h

marks_by : (n : ℕ) (ks : List ℕ) (marks : List Bool) → length marks ≡ n →
    ((k : ℕ) → k < n → slice_index_or marks k false ≡ has k ks) → marks ≡ marks_of n ks
unfolding marks_of
marks_by n ks marks e h = fill_by_all (λ k. has k ks) marks n false e h

same_marks : (n : ℕ) (ks ls : List ℕ) → ((k : ℕ) → has k ks ≡ has k ls) → marks_of n ks ≡ marks_of n ls
same_marks n ks ls h = marks_by n ls (marks_of n ks) (length-marks n ks) (λ k lt. mark_at n ks k false lt ∙ h k)

has-cons : (k j : ℕ) (ks : List ℕ) → has k (j ∷ ks) ≡ ((j == k) || has k ks)
unfolding has
has-cons k j ks = refl

has-append : (k : ℕ) (ks ls : List ℕ) → has k (ks ++ ls) ≡ (has k ks || has k ls)
unfolding has
has-append k [] ls = refl
has-append k (j ∷ ks) ls = go (j == k) (has-append k ks ls)
  where
    go : (b : Bool) → has k (ks ++ ls) ≡ (has k ks || has k ls) →
        (b || has k (ks ++ ls)) ≡ ((b || has k ks) || has k ls)
    go true e = refl
    go false e = e

equal : (n : ℕ) → (n == n) ≡ true
equal n = grind (arith, nat_tests)

-- one more mark
set_mark : (n k : ℕ) (ks : List ℕ) (marks : List Bool) → k < n → marks ≡ marks_of n ks →
    slice_set marks k true ≡ marks_of n (k ∷ ks)
set_mark n k ks marks lt e =
    marks_by n (k ∷ ks) (slice_set marks k true) (length-set marks k true ∙ count) (λ j jn. at j jn (same_or_not j k))
  where
    count : length marks ≡ n
    count = rw e (length-marks n ks)

    at : (j : ℕ) → j < n → (j ≡ k) ⊎ (j ≢ k) → slice_index_or (slice_set marks k true) j false ≡ has j (k ∷ ks)
    at j jn (inl q) = rw (q, has-cons k k ks, equal k) (get_or-set_same marks k true false (rw count lt))
    at j jn (inr q) = rw (has-cons j k ks, apart k j (λ z. q (sym z)))
        (get_or-set_other marks k j true false q ∙ rw e (mark_at n ks j false jn))

-- nothing is marked
none_marked : (n : ℕ) → replicate n false ≡ marks_of n []
unfolding has
none_marked n = marks_by n [] (replicate n false) (length-replicate n false)
    (λ k lt. get_or-replicate n k false false lt)

-- ---- marked too
pub marked_one : (k : ℕ) (marks : List Bool) → k < length marks → AreMarkedToo (k ∷ []) marks (slice_set marks k true)
marked_one k marks lt n ks e = set_mark n k ks marks (rw (← count) lt) e
  where
    count : length marks ≡ n
    count = rw e (length-marks n ks)

marked_both : (ks ls : List ℕ) (old mid new : List Bool) → AreMarkedToo ks old mid → AreMarkedToo ls mid new →
    AreMarkedToo (ks ++ ls) old new
marked_both ks ls old mid new f g n marked e =
    g n (ks ++ marked) (f n marked e) ∙ same_marks n (ls ++ (ks ++ marked)) ((ks ++ ls) ++ marked) same
  where
    turned : (a b c : Bool) → (b || (a || c)) ≡ ((a || b) || c)
    turned true true c = refl
    turned true false c = refl
    turned false b c = refl

    same : (k : ℕ) → has k (ls ++ (ks ++ marked)) ≡ has k ((ks ++ ls) ++ marked)
    same k = rw (
      has-append k ls (ks ++ marked),
      has-append k ks marked,
      has-append k (ks ++ ls) marked,
      has-append k ks ls,
    ) (turned (has k ks) (has k ls) (has k marked))

-- ---- what the lines from one on need
pub drop_cons : {X : Type 0} (xs : List X) (k : ℕ) (x : X) → slice_get xs k ≡ Some x → drop k xs ≡ x ∷ drop (suc k) xs
drop_cons [] k x h = absurd cc
drop_cons (y ∷ ys) zero x h = let e : y ≡ x = cc in ap (λ y. y ∷ ys) e
drop_cons (y ∷ ys) (suc k) x h = drop_cons ys k x h

needed_more : (final k : ℕ) (lines : List Line) (line : Line) → slice_get lines k ≡ Some line →
    needed_from final k (drop k lines) ≡ with_cited k line (needed_from final (k + 1) (drop (k + 1) lines))
needed_more final k lines line h = let e : k + 1 ≡ suc k = omega arith in
    ap (needed_from final k) (drop_cons lines k line h) ∙ rw e refl

with_more : (k : ℕ) (line : Line) (ks : List ℕ) → has k ks ≡ true → with_cited k line ks ≡ cited line ++ ks
unfolding with_cited
with_more k line ks h = rw h refl

with_none : (k : ℕ) (line : Line) (ks : List ℕ) → has k ks ≡ false → with_cited k line ks ≡ ks
unfolding with_cited
with_none k line ks h = rw h refl

-- the marks are those of the numbers that the lines from k on need
pub record AreNeeded (log : Log) (k : ℕ) (marks : List Bool) : Type 0 where
  pub needed : marks ≡ marks_of (length log.lines) (needed_from log.final k (drop k log.lines))
  pub within : k ≤ length log.lines

pub only_end : (log : Log) (k n end : ℕ) (marks : List Bool) → end ≡ log.final → end < length log.lines →
    n ≡ length log.lines → marks ≡ replicate n false → k ≡ n → AreNeeded log k (slice_set marks end true)
only_end log k n end marks e lt len h is = record {
  needed = rw e (set_mark (length log.lines) log.final [] marks (rw e at lt)
      (rw (h, len) (none_marked (length log.lines)))
      ∙ ap (λ ks. marks_of (length log.lines) ks) (none_left k log.lines (is ∙ len)));
  within = omega arith;
}
  where
    none_left : (k : ℕ) (lines : List Line) → k ≡ length lines → log.final ∷ [] ≡ needed_from log.final k (drop k lines)
    none_left k lines e = rw (drop_all k lines (omega arith)) refl

pub below_length : (log : Log) (j k : ℕ) (marks : List Bool) → AreNeeded log k marks → j < k - 1 → j < length marks
below_length log j k marks a lt = let w = a.within in let e : length marks ≡ length log.lines =
    rw a.needed (length-marks (length log.lines) (needed_from log.final k (drop k log.lines))) in omega arith

pub with_cites : (log : Log) (i k : ℕ) (line : Line) (marks new : List Bool) (d : Bool) → k ≡ i + 1 →
    slice_get log.lines i ≡ Some line → AreNeeded log k marks → slice_index_or marks i d ≡ true →
    AreMarkedToo (cited line) marks new → AreNeeded log i new
with_cites log i k line marks new d e h a t m = record {
  needed = m (length log.lines) (needed_from log.final (i + 1) (drop (i + 1) log.lines)) known
      ∙ ap (λ ks. marks_of (length log.lines) ks)
      (sym (needed_more log.final i log.lines line h ∙ with_more i line _ marked));
  within = (let z = lt in omega arith);
}
  where
    lt : i < length log.lines
    lt = get_in log.lines i line h

    known : marks ≡ marks_of (length log.lines) (needed_from log.final (i + 1) (drop (i + 1) log.lines))
    known = rw e at a.needed

    marked : has i (needed_from log.final (i + 1) (drop (i + 1) log.lines)) ≡ true
    marked = sym (mark_at (length log.lines) (needed_from log.final (i + 1) (drop (i + 1) log.lines)) i d lt)
        ∙ rw known at t

pub without_cites : (log : Log) (i k : ℕ) (marks : List Bool) (d : Bool) → k ≡ i + 1 →
    AreNeeded log k marks → slice_index_or marks i d ≡ false → AreNeeded log i marks
without_cites log i k marks d e a t = record {
  needed = (let r = get_some log.lines i lt in known ∙ ap (λ ks. marks_of (length log.lines) ks)
      (sym (needed_more log.final i log.lines r.0 r.1 ∙ with_none i r.0 _ marked)));
  within = (let z = lt in omega arith);
}
  where
    lt : i < length log.lines
    lt = let z = a.within in omega arith

    known : marks ≡ marks_of (length log.lines) (needed_from log.final (i + 1) (drop (i + 1) log.lines))
    known = rw e at a.needed

    marked : has i (needed_from log.final (i + 1) (drop (i + 1) log.lines)) ≡ false
    marked = sym (mark_at (length log.lines) (needed_from log.final (i + 1) (drop (i + 1) log.lines)) i d lt)
        ∙ rw known at t

pub all_needed : (log : Log) (k : ℕ) (marks : List Bool) → k ≡ 0 → AreNeeded log k marks →
    marks ≡ marks_of (length log.lines) (needed log)
unfolding needed
all_needed log k marks e a = rw e at a.needed

-- ---- the lines that cites name
pub named_at : {X : Type 0} (f : X → Cite) (xs : List X) (i : ℕ) (d : X) (k : ℕ) → i < length xs →
    IsIn k (cited_line (f (slice_index_or xs i d))) → IsIn k (flat_map cited_line (map f xs))
named_at f [] i d k lt h = absurd (omega arith)
named_at f (x ∷ xs) zero d k lt h = left_append (cited_line (f x)) (flat_map cited_line (map f xs)) k h
named_at f (x ∷ xs) (suc i) d k lt h = right_append (cited_line (f x)) (flat_map cited_line (map f xs)) k
    (named_at f xs i d k (omega arith) h)

-- one cite more
named_more : {X : Type 0} (f : X → Cite) (xs : List X) (i : ℕ) (d : X) → i < length xs →
    flat_map cited_line (map f (take (i + 1) xs)) ≡ flat_map cited_line (map f (take i xs))
    ++ cited_line (f (slice_index_or xs i d))
named_more f xs i d lt = rw (map_more f xs i d lt)
    (sym (flat_map_more cited_line [] (map f (take i xs)) (f (slice_index_or xs i d))))

pub marked_next : {X : Type 0} (f : X → Cite) (xs : List X) (i : ℕ) (d : X) (old mid new : List Bool) → i < length xs →
    AreMarkedToo (flat_map cited_line (map f (take i xs))) old mid →
    AreMarkedToo (cited_line (f (slice_index_or xs i d))) mid new →
    AreMarkedToo (flat_map cited_line (map f (take (i + 1) xs))) old new
marked_next f xs i d old mid new lt g h = rw (named_more f xs i d lt)
    (marked_both (flat_map cited_line (map f (take i xs))) (cited_line (f (slice_index_or xs i d))) old mid new g h)
