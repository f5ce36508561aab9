-- The lines that the end needs are just the kept ones.
use Rattle.std.proofs.Common.{◌≡◌, ℕ, zero, suc, ◌+◌, ◌<◌, ◌≤◌, ◌⊎◌, ◌↔◌, inl, inr, Bool, true, false, cond, List, [], ◌∷◌, ◌++◌, map, slice_get, take, Some, sym, refl, ap, subst, arith}
use Rattle.std.specs.List.{flat_map, AllZip}
use Rattle.dsa_terms.specs.Buffers.{Instance}
use Rattle.dsa_terms.specs.Claims.{Entry, Claim, IsIn, Covers, child}
use Rattle.dsa_terms.specs.Logs.{Cite, ByLine, Below, Twin, Line, Over, Cases, claim_of, IsLegalCite, IsLegalReason, IsLegal, Log, IsAccepted}
use Rattle.dsa_terms.specs.Parts.{has}
use Rattle.dsa_terms.specs.Trims.{Cites, IsKept, at_end, by_cite, moved_cite, moved_line}
use Rattle.dsa_trim_laws.specs.Trimmed.{cited_line, cited, with_cited, needed_from, needed}
use Rattle.dsa_search_laws.proofs.Logs.{from_take}
use Rattle.dsa_terms.proofs.Lists.{from_append, has_in, in_has, into_map, left_append, right_append}

-- ---- what a line cites
into_cited : (cites : List Cite) (k : ℕ) → IsIn (ByLine k) cites → IsIn k (flat_map cited_line cites)
into_cited [] k i = absurd i
into_cited (c ∷ cs) k (inl q) = subst (λ (c : Cite). IsIn k (cited_line c ++ flat_map cited_line cs)) q (inl refl)
into_cited (c ∷ cs) k (inr i) = right_append (cited_line c) (flat_map cited_line cs) k (into_cited cs k i)

from_cited : (cites : List Cite) (k : ℕ) → IsIn k (flat_map cited_line cites) → IsIn (ByLine k) cites
from_cited [] k i = absurd i
from_cited (ByLine j ∷ cs) k (inl q) = inl (ap ByLine q)
from_cited (ByLine j ∷ cs) k (inr i) = inr (from_cited cs k i)
from_cited (Below c ∷ cs) k i = inr (from_cited cs k i)
from_cited (Twin c ∷ cs) k i = inr (from_cited cs k i)

-- the numbers of the cited lines are those of the lines that the line cites
pub cites_are : (line : Line) (k : ℕ) → Cites line k ↔ IsIn k (cited line)
cites_are (Over l T H G) k = (λ i. i, λ i. i)
cites_are (Cases l cites) k = (into_cited cites k, from_cited cites k)

-- ---- what is needed
-- each line cites earlier lines alone
abbrev pub CitesEarlier : ℕ → List Line → Type 0
CitesEarlier n lines = (i : ℕ) (line : Line) (j : ℕ) → slice_get lines i ≡ Some line → IsIn j (cited line) → j < n + i

pub later_cites : (n : ℕ) (x : Line) (xs : List Line) → CitesEarlier n (x ∷ xs) → CitesEarlier (n + 1) xs
later_cites n x xs h i line j q m = let k = h (suc i) line j q m in omega arith

still_needed : (n : ℕ) (line : Line) (w : List ℕ) (j : ℕ) → IsIn j w → IsIn j (with_cited n line w)
unfolding with_cited
still_needed n line w j i = go (has n w)
  where
    go : (b : Bool) → IsIn j (cond b (cited line ++ w) w)
    go true = right_append (cited line) w j i
    go false = i

of_with_cited : (n : ℕ) (line : Line) (w : List ℕ) (j : ℕ) → IsIn j (with_cited n line w) →
    ((has n w ≡ true) × IsIn j (cited line)) ⊎ IsIn j w
unfolding with_cited
of_with_cited n line w j i = go (has n w) refl i
  where
    go : (b : Bool) → has n w ≡ b → IsIn j (cond b (cited line ++ w) w) →
        ((has n w ≡ true) × IsIn j (cited line)) ⊎ IsIn j w
    go true e i = elim (from_append (cited line) w j i) [ inl k ↦ inl (e, k) | inr k ↦ inr k ]
    go false e i = inr i

all_cited : (n : ℕ) (line : Line) (w : List ℕ) (j : ℕ) → has n w ≡ true → IsIn j (cited line) →
    IsIn j (with_cited n line w)
unfolding with_cited
all_cited n line w j t i = rw t (left_append (cited line) w j i)

end_needed : (final n : ℕ) (lines : List Line) → IsIn final (needed_from final n lines)
end_needed final n [] = inl refl
end_needed final n (x ∷ xs) = still_needed n x (needed_from final (n + 1) xs) final (end_needed final (n + 1) xs)

cited_needed : (final n : ℕ) (lines : List Line) (i : ℕ) (line : Line) (j : ℕ) → CitesEarlier n lines →
    slice_get lines i ≡ Some line → IsIn (n + i) (needed_from final n lines) →
    IsIn j (cited line) → IsIn j (needed_from final n lines)
cited_needed final n [] i line j c h m q = absurd cc
cited_needed final n (x ∷ xs) zero line j c h m q = go (of_with_cited n x (needed_from final (n + 1) xs) n (rw e at m))
  where
    e : n + 0 ≡ n
    e = omega arith

    same : x ≡ line
    same = cc

    with_all : has n (needed_from final (n + 1) xs) ≡ true → IsIn j (with_cited n x (needed_from final (n + 1) xs))
    with_all t = all_cited n x (needed_from final (n + 1) xs) j t (rw same q)

    go : ((has n (needed_from final (n + 1) xs) ≡ true) × IsIn n (cited x)) ⊎ IsIn n (needed_from final (n + 1) xs) →
        IsIn j (with_cited n x (needed_from final (n + 1) xs))
    go (inl k) = with_all k.0
    go (inr k) = with_all (in_has n (needed_from final (n + 1) xs) k)
cited_needed final n (x ∷ xs) (suc i) line j c h m q =
    still_needed n x (needed_from final (n + 1) xs) j
    (cited_needed final (n + 1) xs i line j (later_cites n x xs c) h
    (go (of_with_cited n x (needed_from final (n + 1) xs) (n + suc i) m)) q)
  where
    e : n + suc i ≡ n + 1 + i
    e = omega arith

    go : ((has n (needed_from final (n + 1) xs) ≡ true) × IsIn (n + suc i) (cited x))
        ⊎ IsIn (n + suc i) (needed_from final (n + 1) xs) → IsIn (n + 1 + i) (needed_from final (n + 1) xs)
    go (inl k) = absurd (let z = c 0 x (n + suc i) refl k.1 in omega arith)
    go (inr k) = rw e at k

needed_is_kept : (log : Log) (n : ℕ) (lines : List Line) (j : ℕ) →
    ((i : ℕ) (line : Line) → slice_get lines i ≡ Some line → slice_get log.lines (n + i) ≡ Some line) →
    IsIn j (needed_from log.final n lines) → IsKept log j
needed_is_kept log n [] j h (inl q) = subst (λ (j : ℕ). IsKept log j) (sym q) at_end
needed_is_kept log n [] j h (inr i) = absurd i
needed_is_kept log n (x ∷ xs) j h i = go (λ k m. needed_is_kept log (n + 1) xs k later m)
    (of_with_cited n x (needed_from log.final (n + 1) xs) j i)
  where
    later : (i : ℕ) (line : Line) → slice_get xs i ≡ Some line → slice_get log.lines (n + 1 + i) ≡ Some line
    later i line q = let e : n + 1 + i ≡ n + suc i = omega arith in rw e (h (suc i) line q)

    here : slice_get log.lines n ≡ Some x
    here = let e : n + 0 ≡ n = omega arith in rw e at (h 0 x refl)

    go : ((k : ℕ) → IsIn k (needed_from log.final (n + 1) xs) → IsKept log k) →
        ((has n (needed_from log.final (n + 1) xs) ≡ true) × IsIn j (cited x))
        ⊎ IsIn j (needed_from log.final (n + 1) xs) → IsKept log j
    go ih (inl k) =
        by_cite n j x (ih n (has_in n (needed_from log.final (n + 1) xs) k.0)) here ((cites_are x j).1 k.1)
    go ih (inr k) = ih j k

pub kept_up_to : (final n : ℕ) (lines : List Line) (j : ℕ) → CitesEarlier n lines → IsIn j (needed_from final n lines) →
    j ≤ final
kept_up_to final n [] j c (inl q) = omega arith
kept_up_to final n [] j c (inr i) = absurd i
kept_up_to final n (x ∷ xs) j c i = go (λ k. kept_up_to final (n + 1) xs k (later_cites n x xs c))
    (of_with_cited n x (needed_from final (n + 1) xs) j i)
  where
    go : ((k : ℕ) → IsIn k (needed_from final (n + 1) xs) → k ≤ final) →
        ((has n (needed_from final (n + 1) xs) ≡ true) × IsIn j (cited x)) ⊎ IsIn j (needed_from final (n + 1) xs) →
        j ≤ final
    go ih (inl k) = let a = c 0 x j refl k.1 in let b = ih n (has_in n (needed_from final (n + 1) xs) k.0) in
        omega arith
    go ih (inr k) = ih j k

-- ---- an accepted log cites earlier lines alone
cites_there : (I : Instance) (earlier : List Line) (l m : Claim) (cites : List Cite) (j : ℕ) →
    AllZip (IsLegalCite I earlier l) m cites → IsIn j (flat_map cited_line cites) →
    (line : Line) × (slice_get earlier j ≡ Some line)
cites_there I earlier l m [] j z i = absurd i
cites_there I earlier l [] (c ∷ cs) j z i = absurd z
cites_there I earlier l (e ∷ es) (c ∷ cs) j z i =
    go c z.0 (from_append (cited_line c) (flat_map cited_line cs) j i) (λ k. cites_there I earlier l es cs j z.1 k)
  where
    go : (c : Cite) → IsLegalCite I earlier l e c → IsIn j (cited_line c) ⊎ IsIn j (flat_map cited_line cs) →
        (IsIn j (flat_map cited_line cs) → (line : Line) × (slice_get earlier j ≡ Some line)) →
        (line : Line) × (slice_get earlier j ≡ Some line)
    go c h (inr k) ih = ih k
    go (ByLine k) h (inl (inl q)) ih = (h.0, rw q h.1)
    go (ByLine k) h (inl (inr q)) ih = absurd q
    go (Below d) h (inl q) ih = absurd q
    go (Twin d) h (inl q) ih = absurd q

line_cites_there : (I : Instance) (C : ℕ) (earlier : List Line) (line : Line) (j : ℕ) → IsLegalReason I C earlier line →
    IsIn j (cited line) → (other : Line) × (slice_get earlier j ≡ Some other)
line_cites_there I C earlier (Over l T H G) j r i = absurd i
line_cites_there I C earlier (Cases l cites) j r i = cites_there I earlier l l cites j r i

pub cites_earlier : (I : Instance) (log : Log) → IsAccepted I log → CitesEarlier 0 log.lines
cites_earlier I log a i line j h m =
    let r = line_cites_there I log.capacity (take i log.lines) line j (a.legal i line h).reason m in
    let q = from_take log.lines i j r.0 r.1 in
    let z = q.1 in omega arith

-- ---- kept lines are those that are needed
kept_needed : (log : Log) → CitesEarlier 0 log.lines → (k : ℕ) → IsKept log k → IsIn k (needed log)
unfolding needed
kept_needed log c k at_end = end_needed log.final 0 log.lines
kept_needed log c k (by_cite j n line h q i) =
    let e : 0 + j ≡ j = omega arith in
    cited_needed log.final 0 log.lines j line k c q (rw e (kept_needed log c j h)) ((cites_are line k).0 i)

pub kept_by : (log : Log) (k : ℕ) → CitesEarlier 0 log.lines → IsKept log k ↔ (has k (needed log) ≡ true)
unfolding needed
kept_by log k c = (
  λ h. in_has k (needed log) (kept_needed log c k h),
  λ t. needed_is_kept log 0 log.lines k (λ i line q. let e : 0 + i ≡ i = omega arith in
      rw e q) (has_in k (needed log) t),
)

pub kept_exactly : (I : Instance) (log : Log) (k : ℕ) → IsAccepted I log → IsKept log k ↔ (has k (needed log) ≡ true)
kept_exactly I log k a = kept_by log k (cites_earlier I log a)

-- ---- a line whose cites are renumbered
pub claim_of-moved : (to : ℕ → ℕ) (line : Line) → claim_of (moved_line to line) ≡ claim_of line
claim_of-moved to (Over l T H G) = refl
claim_of-moved to (Cases l cites) = refl

pub cites-moved : (to : ℕ → ℕ) (line : Line) (k : ℕ) → Cites line k → Cites (moved_line to line) (to k)
cites-moved to (Over l T H G) k i = absurd i
cites-moved to (Cases l cites) k i = into_map (moved_cite to) cites (ByLine k) i

-- the lines that are cited stand where the renumbered cites say
abbrev pub StandsMoved : (ℕ → ℕ) → List Line → List Line → List ℕ → Type 0
StandsMoved to earlier others ks = (j : ℕ) (line : Line) → IsIn j ks → slice_get earlier j ≡ Some line →
    slice_get others (to j) ≡ Some (moved_line to line)

legal_cite-moved : (I : Instance) (to : ℕ → ℕ) (earlier others : List Line) (l : Claim) (e : Entry) (c : Cite) →
    StandsMoved to earlier others (cited_line c) →
    IsLegalCite I earlier l e c → IsLegalCite I others l e (moved_cite to c)
legal_cite-moved I to earlier others l e (ByLine k) h q = (
  moved_line to q.0,
  h k q.0 (inl refl) q.1,
  subst (λ (k : Claim). Covers I k (child I l e)) (sym (claim_of-moved to q.0)) q.2,
)
legal_cite-moved I to earlier others l e (Below c) h q = q
legal_cite-moved I to earlier others l e (Twin c) h q = q

legal_cites-moved : (I : Instance) (to : ℕ → ℕ) (earlier others : List Line) (l m : Claim) (cites : List Cite) →
    StandsMoved to earlier others (flat_map cited_line cites) →
    AllZip (IsLegalCite I earlier l) m cites → AllZip (IsLegalCite I others l) m (map (moved_cite to) cites)
legal_cites-moved I to earlier others l [] [] h z = z
legal_cites-moved I to earlier others l [] (c ∷ cs) h z = absurd z
legal_cites-moved I to earlier others l (e ∷ es) [] h z = absurd z
legal_cites-moved I to earlier others l (e ∷ es) (c ∷ cs) h z = (
  legal_cite-moved I to earlier others l e c
      (λ j line i. h j line (left_append (cited_line c) (flat_map cited_line cs) j i)) z.0,
  legal_cites-moved I to earlier others l es cs
      (λ j line i. h j line (right_append (cited_line c) (flat_map cited_line cs) j i)) z.1,
)

legal_reason-moved : (I : Instance) (C : ℕ) (to : ℕ → ℕ) (earlier others : List Line) (line : Line) →
    StandsMoved to earlier others (cited line) →
    IsLegalReason I C earlier line → IsLegalReason I C others (moved_line to line)
legal_reason-moved I C to earlier others (Over l T H G) h r = r
legal_reason-moved I C to earlier others (Cases l cites) h r = legal_cites-moved I to earlier others l l cites h r

pub legal-moved : (I : Instance) (C : ℕ) (to : ℕ → ℕ) (earlier others : List Line) (line : Line) →
    StandsMoved to earlier others (cited line) → IsLegal I C earlier line → IsLegal I C others (moved_line to line)
legal-moved I C to earlier others line h r = record {
  claim = rw (claim_of-moved to line) r.claim;
  not_empty = rw (claim_of-moved to line) r.not_empty;
  reason = legal_reason-moved I C to earlier others line h r.reason;
}
