-- A trimmed log is accepted, and trimming it again changes nothing.
use Rattle.std.proofs.Common.{◌≡◌, ℕ, zero, suc, ◌+◌, ◌-◌, ◌<◌, ◌≤◌, ◌↔◌, inl, inr, Bool, true, false, List, [], ◌∷◌, map, length, filter, slice_get, take, Some, sym, refl, ap, ◌∙◌, subst, arith}
use Rattle.std.specs.List.{flat_map}
use Rattle.dsa_terms.specs.Buffers.{Instance}
use Rattle.dsa_terms.specs.Claims.{IsIn, IsWhole}
use Rattle.dsa_terms.specs.Logs.{Cite, ByLine, Below, Twin, Line, Over, Cases, claim_of, IsLegal, Log, IsAccepted}
use Rattle.dsa_terms.specs.Parts.{has, numbers}
use Rattle.dsa_terms.specs.Trims.{IsKept, at_end, by_cite, rank, moved_cite, moved_line, picked, IsTrimOf, IsCited}
use Rattle.dsa_trim_laws.specs.Trimmed.{cited_line, cited, needed, renumbered, kept_lines, trimmed}
use Rattle.dsa_search_laws.proofs.Logs.{from_take}
use Rattle.dsa_terms.proofs.Lists.{has_in, left_append, right_append, true_or_false}
use Rattle.dsa_terms.proofs.Places.{get_map}
use Rattle.std.proofs.lemmas.List.{length-map}
use Rattle.dsa_trim_laws.proofs.Picked.{get_in, into_take, of_get_map, passing, passing_less, passing_ends, passing_last, passing_all, length-picked, picked_at, picked_from, picked_all}
use Rattle.dsa_trim_laws.proofs.Needed.{CitesEarlier, later_cites, kept_up_to, cites_earlier, kept_exactly, claim_of-moved, cites_are, cites-moved, StandsMoved, legal-moved}

-- ---- the trimmed log
rank_is : (log : Log) (k : ℕ) → renumbered (needed log) k ≡ passing (λ j. has j (needed log)) 0 k
unfolding renumbered
rank_is log k = refl

-- a kept line stands in the trimmed log under its new number
kept_at : (log : Log) (k : ℕ) (line : Line) → slice_get log.lines k ≡ Some line → has k (needed log) ≡ true →
    slice_get (kept_lines (needed log) log.lines) (renumbered (needed log) k) ≡ Some
    (moved_line (renumbered (needed log)) line)
unfolding kept_lines
kept_at log k line h t =
    rw (rank_is log k) (get_map (moved_line (renumbered (needed log))) (picked (λ k. has k (needed log)) 0 log.lines)
    (passing (λ j. has j (needed log)) 0 k) line
    (picked_at (λ k. has k (needed log)) 0 log.lines k line h (let e : 0 + k ≡ k = omega arith in rw e t)))

record IsMoved (log : Log) (n : ℕ) (line : Line) : Type 0 where
  place : ℕ
  old : Line
  there : slice_get log.lines place ≡ Some old
  kept : has place (needed log) ≡ true
  number : n ≡ renumbered (needed log) place
  same : moved_line (renumbered (needed log)) old ≡ line

kept_from : (log : Log) (n : ℕ) (line : Line) → slice_get (kept_lines (needed log) log.lines) n ≡ Some line →
    IsMoved log n line
unfolding kept_lines
kept_from log n line h =
    let r = of_get_map (moved_line (renumbered (needed log))) (picked (λ k. has k (needed log)) 0 log.lines) n line h in
    let q = picked_from (λ k. has k (needed log)) 0 log.lines n r.0 r.1 in
    let e : 0 + q.place ≡ q.place = omega arith in
    record {
      place = q.place;
      old = r.0;
      there = q.there;
      kept = rw e at q.passes;
      number = rw (rank_is log q.place) q.number;
      same = r.2;
    }

rank_less : (log : Log) (j k : ℕ) → j < k → has j (needed log) ≡ true →
    renumbered (needed log) j < renumbered (needed log) k
rank_less log j k lt t = rw (rank_is log j, rank_is log k)
    (passing_less (λ j. has j (needed log)) 0 j k lt (let e : 0 + j ≡ j = omega arith in rw e t))

stands : (I : Instance) (log : Log) (k : ℕ) (line : Line) → IsAccepted I log → slice_get log.lines k ≡ Some line →
    has k (needed log) ≡ true →
    StandsMoved (renumbered (needed log)) (take k log.lines)
    (take (renumbered (needed log) k) (kept_lines (needed log) log.lines)) (cited line)
stands I log k line a h t j other i q =
    let r = from_take log.lines k j other q in
    let m = kept_exactly I log j a in
    let kj = m.0 (by_cite k j line ((kept_exactly I log k a).1 t) h ((cites_are line j).1 i)) in
    into_take (kept_lines (needed log) log.lines) (renumbered (needed log) k) (renumbered (needed log) j)
    (moved_line (renumbered (needed log)) other) (kept_at log j other r.0 kj) (rank_less log j k r.1 kj)

not_needed : (I : Instance) (log : Log) (i : ℕ) → IsAccepted I log → suc log.final ≤ i →
    has (0 + i) (needed log) ≡ false
unfolding needed
not_needed I log i a le = elim (true_or_false (has (0 + i) (needed log))) [
  | inl t ↦ absurd (let k = kept_up_to log.final 0 log.lines (0 + i) (cites_earlier I log a)
      (has_in (0 + i) (needed log) t) in omega arith)
  | inr f ↦ f
]

-- the end's line is the last
last_kept : (I : Instance) (log : Log) → IsAccepted I log →
    length (kept_lines (needed log) log.lines) ≡ suc (renumbered (needed log) log.final)
unfolding kept_lines
last_kept I log a =
    length-map (picked (λ k. has k (needed log)) 0 log.lines) (moved_line (renumbered (needed log)))
    ∙ (length-picked (λ k. has k (needed log)) 0 log.lines
    ∙ (passing_ends (λ k. has k (needed log)) 0 (suc log.final) (length log.lines) (let w = a.whole in
    get_in log.lines log.final w.0 w.1) past
    ∙ (passing_last (λ k. has k (needed log)) 0 log.final (let e : 0 + log.final ≡ log.final = omega arith in
    rw e ((kept_exactly I log log.final a).0 at_end)) ∙ ap suc (sym (rank_is log log.final)))))
  where
    past : (i : ℕ) → suc log.final ≤ i → has (0 + i) (needed log) ≡ false
    past i le = not_needed I log i a le

legal_at : (I : Instance) (log : Log) → IsAccepted I log → (k place : ℕ) (old line : Line) →
    slice_get log.lines place ≡ Some old → has place (needed log) ≡ true →
    k ≡ renumbered (needed log) place → moved_line (renumbered (needed log)) old ≡ line →
    IsLegal I log.capacity (take k (kept_lines (needed log) log.lines)) line
legal_at I log a k place old line there kept number same =
    rw (number, ← same) (legal-moved I log.capacity (renumbered (needed log)) (take place log.lines)
    (take (renumbered (needed log) place) (kept_lines (needed log) log.lines)) old
    (stands I log place old a there kept) (a.legal place old there))

pub trimmed_is_accepted : (I : Instance) (log : Log) → IsAccepted I log → IsAccepted I (trimmed log)
unfolding trimmed
trimmed_is_accepted I log a = record { same_count = a.same_count; legal = legal; whole = whole }
  where
    legal : (k : ℕ) (line : Line) → slice_get (kept_lines (needed log) log.lines) k ≡ Some line →
        IsLegal I log.capacity (take k (kept_lines (needed log) log.lines)) line
    legal k line h = let r = kept_from log k line h in
        legal_at I log a k r.place r.old line r.there r.kept r.number r.same

    last : length (kept_lines (needed log) log.lines) - 1 ≡ renumbered (needed log) log.final
    last = let k = last_kept I log a in omega arith

    whole : (line : Line) × (slice_get (kept_lines (needed log) log.lines)
        (length (kept_lines (needed log) log.lines) - 1) ≡ Some line) × IsWhole I (claim_of line)
    whole =
        let w = a.whole in (
          moved_line (renumbered (needed log)) w.0,
          rw last (kept_at log log.final w.0 w.1 ((kept_exactly I log log.final a).0 at_end)),
          rw (claim_of-moved (renumbered (needed log)) w.0) w.2,
        )

-- ---- trimmed again
kept-trimmed : (I : Instance) (log : Log) → IsAccepted I log → (k : ℕ) → IsKept log k →
    IsKept (trimmed log) (renumbered (needed log) k)
unfolding trimmed
kept-trimmed I log a k at_end = subst (λ (n : ℕ). IsKept (trimmed log) n) last at_end
  where
    last : length (kept_lines (needed log) log.lines) - 1 ≡ renumbered (needed log) log.final
    last = let k = last_kept I log a in omega arith
kept-trimmed I log a k (by_cite j n line h q i) =
    by_cite (renumbered (needed log) j) (renumbered (needed log) k) (moved_line (renumbered (needed log)) line)
    (kept-trimmed I log a j h)
    (kept_at log j line q ((kept_exactly I log j a).0 h)) (cites-moved (renumbered (needed log)) line k i)

pub get_some : {X : Type 0} (xs : List X) (k : ℕ) → k < length xs → (x : X) × (slice_get xs k ≡ Some x)
get_some [] k lt = absurd (omega arith)
get_some (x ∷ xs) zero lt = (x, refl)
get_some (x ∷ xs) (suc k) lt = get_some xs k (omega arith)

all_kept : (I : Instance) (log : Log) → IsAccepted I log → (k : ℕ) → k < length (kept_lines (needed log) log.lines) →
    has k (needed (trimmed log)) ≡ true
all_kept I log a k lt =
    let x = get_some (kept_lines (needed log) log.lines) k lt in
    let r = kept_from log k x.0 x.1 in
    let old = (kept_exactly I log r.place a).1 r.kept in
    (kept_exactly I (trimmed log) k (trimmed_is_accepted I log a)).0 (rw r.number (kept-trimmed I log a r.place old))

-- cites that stay where they are
stays_cites : (to : ℕ → ℕ) (cites : List Cite) → ((j : ℕ) → IsIn j (flat_map cited_line cites) → to j ≡ j) →
    map (moved_cite to) cites ≡ cites
stays_cites to [] h = refl
stays_cites to (c ∷ cs) h = go c (λ j i. h j (left_append (cited_line c) (flat_map cited_line cs) j i))
    (stays_cites to cs (λ j i. h j (right_append (cited_line c) (flat_map cited_line cs) j i)))
  where
    go : (c : Cite) → ((j : ℕ) → IsIn j (cited_line c) → to j ≡ j) → map (moved_cite to) cs ≡ cs →
        moved_cite to c ∷ map (moved_cite to) cs ≡ c ∷ cs
    go (ByLine k) q ih = rw (q k (inl refl), ih) refl
    go (Below d) q ih = rw ih refl
    go (Twin d) q ih = rw ih refl

stays : (to : ℕ → ℕ) (line : Line) → ((j : ℕ) → IsIn j (cited line) → to j ≡ j) → moved_line to line ≡ line
stays to (Over l T H G) h = refl
stays to (Cases l cites) h = ap (λ cs. Cases l cs) (stays_cites to cites h)

all_stay : (to : ℕ → ℕ) (n : ℕ) (lines : List Line) → CitesEarlier n lines →
    ((j : ℕ) → j < n + length lines → to j ≡ j) → map (moved_line to) lines ≡ lines
all_stay to n [] c h = refl
all_stay to n (x ∷ xs) c h =
    rw (
      stays to x (λ j i. h j (let k = c 0 x j refl i in omega arith)),
      all_stay to (n + 1) xs (later_cites n x xs c) (λ j lt. h j (omega arith)),
    ) refl

again : (lines : List Line) (needs : List ℕ) → CitesEarlier 0 lines →
    ((k : ℕ) → k < length lines → has k needs ≡ true) → kept_lines needs lines ≡ lines
unfolding kept_lines renumbered
again lines needs c h =
    rw (picked_all (λ k. has k needs) 0 lines (λ i lt. let e : 0 + i ≡ i = omega arith in rw e (h i lt)))
    (all_stay (renumbered needs) 0 lines c (λ j lt.
    passing_all (λ k. has k needs) 0 j (λ i l. let e : 0 + i ≡ i = omega arith in rw e (h i (omega arith)))))

trimmed_lines_stay : (I : Instance) (log : Log) → IsAccepted I log →
    kept_lines (needed (trimmed log)) (kept_lines (needed log) log.lines) ≡ kept_lines (needed log) log.lines
unfolding trimmed
trimmed_lines_stay I log a = again (kept_lines (needed log) log.lines) (needed (trimmed log))
    (cites_earlier I (trimmed log) (trimmed_is_accepted I log a)) (all_kept I log a)

pub trimmed_stays : (I : Instance) (log : Log) → IsAccepted I log → trimmed (trimmed log) ≡ trimmed log
unfolding trimmed
trimmed_stays I log a = rw (trimmed_lines_stay I log a) refl

-- ---- each line but the last is cited by a later one
cited_later : (I : Instance) (log : Log) (k : ℕ) → IsAccepted I log → k < log.final → IsKept log k → IsCited log.lines k
cited_later I log k a lt at_end = absurd (omega arith)
cited_later I log k a lt (by_cite j n line h q i) =
    record {
      number = j;
      line = line;
      later = (let z = cites_earlier I log a j line k q ((cites_are line k).0 i) in omega arith);
      there = q;
      cites = i;
    }

pub trimmed_is_cited : (I : Instance) (log : Log) (k : ℕ) → IsAccepted I log → suc k < length (trimmed log).lines →
    IsCited (trimmed log).lines k
unfolding trimmed
trimmed_is_cited I log k a lt =
    let b = trimmed_is_accepted I log a in
    cited_later I (trimmed log) k b (omega arith)
    ((kept_exactly I (trimmed log) k b).1 (all_kept I log a k (omega arith)))

-- ---- the end's claim stays, and the end is the last line
pub trimmed_end : (I : Instance) (log : Log) (line : Line) → IsAccepted I log →
    slice_get log.lines log.final ≡ Some line →
    (last : Line) × (slice_get (trimmed log).lines (trimmed log).final ≡ Some last) × (claim_of last ≡ claim_of line)
unfolding trimmed
trimmed_end I log line a h =
    let last : length (kept_lines (needed log) log.lines) - 1 ≡ renumbered
    (needed log) log.final = (let k = last_kept I log a in omega arith) in (
      moved_line (renumbered (needed log)) line,
      rw last (kept_at log log.final line h ((kept_exactly I log log.final a).0 at_end)),
      claim_of-moved (renumbered (needed log)) line,
    )

-- ---- it is the log's trim
pub trims : (I : Instance) (log : Log) → IsAccepted I log → IsTrimOf log (trimmed log)
unfolding trimmed kept_lines renumbered rank
trims I log a = record {
  is_kept = λ k. has k (needed log);
  kept = λ k. (let e = kept_exactly I log k a in (e.1, e.0));
  count = refl;
  capacity = refl;
  lines = refl;
  last = (let n = last_kept I log a in omega arith);
}

pub trims_itself : (I : Instance) (log : Log) → IsAccepted I log → IsTrimOf (trimmed log) (trimmed log)
trims_itself I log a = subst (λ (t : Log). IsTrimOf (trimmed log) t) (trimmed_stays I log a)
    (trims I (trimmed log) (trimmed_is_accepted I log a))

-- ---- a log has no other trim
same_test : (a b : Bool) (K : Type 0) → (a ≡ true) ↔ K → (b ≡ true) ↔ K → a ≡ b
same_test true true K p q = refl
same_test true false K p q = sym (q.1 (p.0 refl))
same_test false true K p q = p.1 (q.0 refl)
same_test false false K p q = refl

same_picked : {X : Type 0} (p q : ℕ → Bool) (n : ℕ) (xs : List X) → ((k : ℕ) → p k ≡ q k) →
    picked p n xs ≡ picked q n xs
same_picked p q n [] h = refl
same_picked p q n (x ∷ xs) h = rw (h n, same_picked p q (n + 1) xs h) refl

same_filter : (p q : ℕ → Bool) (xs : List ℕ) → ((k : ℕ) → p k ≡ q k) → filter p xs ≡ filter q xs
same_filter p q [] h = refl
same_filter p q (x ∷ xs) h = rw (h x, same_filter p q xs h) refl

same_rank : (p q : ℕ → Bool) (k : ℕ) → ((k : ℕ) → p k ≡ q k) → rank p k ≡ rank q k
unfolding rank
same_rank p q k h = ap length (same_filter p q (numbers k) h)

same_cites : (f g : ℕ → ℕ) (cites : List Cite) → ((k : ℕ) → f k ≡ g k) →
    map (moved_cite f) cites ≡ map (moved_cite g) cites
same_cites f g [] h = refl
same_cites f g (ByLine k ∷ cs) h = rw (h k, same_cites f g cs h) refl
same_cites f g (Below c ∷ cs) h = rw (same_cites f g cs h) refl
same_cites f g (Twin c ∷ cs) h = rw (same_cites f g cs h) refl

same_lines : (f g : ℕ → ℕ) (lines : List Line) → ((k : ℕ) → f k ≡ g k) →
    map (moved_line f) lines ≡ map (moved_line g) lines
same_lines f g [] h = refl
same_lines f g (Over l T H G ∷ ls) h = rw (same_lines f g ls h) refl
same_lines f g (Cases l cites ∷ ls) h = rw (same_cites f g cites h, same_lines f g ls h) refl

abbrev log_of : (count capacity : ℕ) → List Line → (final : ℕ) → Log
log_of n c xs e = record { count = n; capacity = c; lines = xs; final = e }

same_log : (n m c d e f : ℕ) (xs ys : List Line) → n ≡ m → c ≡ d → xs ≡ ys → e ≡ f → log_of n c xs e ≡ log_of m d ys f
same_log n m c d e f xs ys p q r s = rw (p, q, r, s) refl

pub one_trim : (log t u : Log) → IsTrimOf log t → IsTrimOf log u → t ≡ u
one_trim log t u p q =
    same_log t.count u.count t.capacity u.capacity t.final u.final t.lines u.lines (p.count ∙ sym q.count)
    (p.capacity ∙ sym q.capacity) lines (let a = p.last in let b = q.last in let c = ap length lines in omega arith)
  where
    tests : (k : ℕ) → p.is_kept k ≡ q.is_kept k
    tests k = same_test (p.is_kept k) (q.is_kept k) (IsKept log k) (p.kept k) (q.kept k)

    lines : t.lines ≡ u.lines
    lines = p.lines ∙ (rw (same_picked p.is_kept q.is_kept 0 log.lines tests)
        (same_lines (rank p.is_kept) (rank q.is_kept) (picked q.is_kept 0 log.lines)
        (λ k. same_rank p.is_kept q.is_kept k tests)) ∙ sym q.lines)

-- the trim of an accepted log is the trimmed one
pub trim_is : (I : Instance) (log t : Log) → IsAccepted I log → IsTrimOf log t → t ≡ trimmed log
trim_is I log t a h = one_trim log t (trimmed log) h (trims I log a)

pub trim_is_accepted : (I : Instance) (log t : Log) → IsAccepted I log → IsTrimOf log t → IsAccepted I t
trim_is_accepted I log t a h =
    subst (λ (t : Log). IsAccepted I t) (sym (trim_is I log t a h)) (trimmed_is_accepted I log a)
