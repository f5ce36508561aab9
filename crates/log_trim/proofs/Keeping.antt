-- Going over the lines forward, the kept ones make up the trimmed log.
use Rattle.std.proofs.Common.{◌≡◌, ℕ, zero, suc, ◌+◌, ◌<◌, ◌≤◌, inl, Bool, true, false, cond, List, [], ◌∷◌, ◌++◌, length, map, filter, drop, take, slice_get, slice_index, Some, All, refl, sym, ap, ◌∙◌, subst, arith, append_assoc}
use Rattle.std.specs.List.{flat_map, range_with_len}
use Rattle.std.proofs.lemmas.List.{take_at, length_push}
use Rattle.std.proofs.lemmas.List.FromFn.{get_or-map-range_with_len, map-range_with_len_more, length-map-range_with_len, length-range_with_len}
use Rattle.dsa_terms.specs.Buffers.{Instance}
use Rattle.dsa_terms.specs.Claims.{IsIn}
use Rattle.dsa_terms.specs.Logs.{Cite, ByLine, Below, Twin, Line, Over, Cases, Log, IsAccepted, IsLegal}
use Rattle.dsa_terms.specs.Parts.{has, numbers}
use Rattle.dsa_terms.specs.Trims.{moved_cite, moved_line, picked}
use Rattle.dsa_trim_laws.specs.Trimmed.{cited, cited_line, kept_lines, needed, renumbered, trimmed}
use Rattle.dsa_terms.proofs.Lists.{left_append, right_append, length-filter_le}
use Rattle.refute_log.specs.Lines.{IsCiteWithin, IsWithin}
use Rattle.refute_log.specs.Logs.{Belongs, OpenLog}
use Rattle.dsa_trim_laws.proofs.Needed.{cites_earlier}
use Rattle.dsa_trim_laws.proofs.Trims.{get_some}
use Rattle.log_trim.proofs.Marked.{drop_cons}

-- ---- the new numbers
one_more : (m n : ℕ) → suc (m + n) ≡ suc m + n
one_more m n = omega arith

count_more_from : (p : ℕ → Bool) (n a j : ℕ) → a + n ≡ j →
    length (filter p (range_with_len a (suc n))) ≡ length (filter p (range_with_len a n)) + cond (p j) 1 0
count_more_from p zero a j e = let k : a ≡ j = omega arith in rw k (go (p j))
  where
    go : (b : Bool) → length (cond b (j ∷ []) []) ≡ 0 + cond b 1 0
    go true = refl
    go false = refl
count_more_from p (suc n) a j e = go (count_more_from p n (a + 1) j (omega arith)) (p a)
  where
    go : length (filter p (range_with_len (a + 1) (suc n)))
        ≡ length (filter p (range_with_len (a + 1) n)) + cond (p j) 1 0 →
        (b : Bool) →
        length (cond b (a ∷ filter p (range_with_len (a + 1) (suc n))) (filter p (range_with_len (a + 1) (suc n))))
        ≡ length (cond b (a ∷ filter p (range_with_len (a + 1) n)) (filter p (range_with_len (a + 1) n)))
        + cond (p j) 1 0
    go ih true = ap suc ih ∙ one_more (length (filter p (range_with_len (a + 1) n))) (cond (p j) 1 0)
    go ih false = ih

renumbered_more : (needs : List ℕ) (k : ℕ) → renumbered needs (k + 1) ≡ renumbered needs k + cond (has k needs) 1 0
unfolding renumbered
renumbered_more needs k =
    let e : k + 1 ≡ suc k = omega arith in rw e (count_more_from (λ j. has j needs) k 0 k (omega arith))

renumbered_le : (needs : List ℕ) (k : ℕ) → renumbered needs k ≤ k
unfolding renumbered
renumbered_le needs k =
    let a = length-filter_le (λ j. has j needs) (numbers k) in let b = length-range_with_len 0 k in omega arith

-- ---- a line with other numbers
same_cites : (f g : ℕ → ℕ) (cites : List Cite) → ((j : ℕ) → IsIn j (flat_map cited_line cites) → f j ≡ g j) →
    map (moved_cite f) cites ≡ map (moved_cite g) cites
same_cites f g [] h = refl
same_cites f g (c ∷ cs) h = go c (λ j i. h j (left_append (cited_line c) (flat_map cited_line cs) j i))
    (same_cites f g cs (λ j i. h j (right_append (cited_line c) (flat_map cited_line cs) j i)))
  where
    go : (c : Cite) → ((j : ℕ) → IsIn j (cited_line c) → f j ≡ g j) →
        map (moved_cite f) cs ≡ map (moved_cite g) cs →
        moved_cite f c ∷ map (moved_cite f) cs ≡ moved_cite g c ∷ map (moved_cite g) cs
    go (ByLine k) q ih = let e = q k (inl refl) in cc
    go (Below d) q ih = cc
    go (Twin d) q ih = cc

same_moved : (f g : ℕ → ℕ) (line : Line) → ((j : ℕ) → IsIn j (cited line) → f j ≡ g j) →
    moved_line f line ≡ moved_line g line
same_moved f g (Over l T H G) h = refl
same_moved f g (Cases l cites) h = ap (λ cs. Cases l cs) (same_cites f g cites h)

-- the numbers that were found serve for each line that cites earlier ones alone
moved_as : (needs found : List ℕ) (k : ℕ) (line : Line) → found ≡ map (renumbered needs) (numbers (k + 1)) →
    ((j : ℕ) → IsIn j (cited line) → j < k) → moved_line (slice_index found) line ≡ moved_line (renumbered needs) line
moved_as needs found k line e h = same_moved (slice_index found) (renumbered needs) line
    (λ j i. let lt = h j i in
    rw e (get_or-map-range_with_len (renumbered needs) 0 (k + 1) j j 0 (omega arith) (omega arith)))

pub has_number : (needs found : List ℕ) (k j : ℕ) → found ≡ map (renumbered needs) (numbers (k + 1)) → j < k →
    j < length found
has_number needs found k j e lt = rw (e, length-map-range_with_len (renumbered needs) 0 (k + 1)) (omega arith)

-- the line that is made is the kept one
pub made_is : (I : Instance) (log : Log) (k : ℕ) (found : List ℕ) (line made : Line) → IsAccepted I log →
    found ≡ map (renumbered (needed log)) (numbers (k + 1)) → slice_get log.lines k ≡ Some line →
    made ≡ moved_line (slice_index found) line → made ≡ moved_line (renumbered (needed log)) line
made_is I log k found line made a e h q = q ∙ moved_as (needed log) found k line e
    (λ j i. let lt = cites_earlier I log a k line j h i in omega arith)

cites_within : (needs : List ℕ) (cites : List Cite) → All IsCiteWithin cites →
    All IsCiteWithin (map (moved_cite (renumbered needs)) cites)
cites_within needs [] h k d lt = absurd (omega arith)
cites_within needs (c ∷ cs) h zero d lt = one c (h 0 c (omega arith))
  where
    one : (c : Cite) → IsCiteWithin c → IsCiteWithin (moved_cite (renumbered needs) c)
    one (ByLine k) h = let z = renumbered_le needs k in omega arith
    one (Below c) h = h
    one (Twin c) h = h
cites_within needs (c ∷ cs) h (suc k) d lt = cites_within needs cs (λ j e jn. h (suc j) e (omega arith)) k d
    (omega arith)

pub moved_within : (needs : List ℕ) (line : Line) → IsWithin line → IsWithin (moved_line (renumbered needs) line)
moved_within needs (Over l T H G) h = h
moved_within needs (Cases l cites) h = (h.0, cites_within needs cites h.1)

-- ---- what is left
-- the trimmed log's lines that come of the lines from number k on
abbrev pub left_from : Log → ℕ → List Line
left_from log k = map (moved_line (renumbered (needed log))) (picked (λ j. has j (needed log)) k (drop k log.lines))

picked_by : (p : ℕ → Bool) (k : ℕ) (lines : List Line) (line : Line) → slice_get lines k ≡ Some line →
    picked p k (drop k lines) ≡ cond (p k) (line ∷ picked p (k + 1) (drop (k + 1) lines))
    (picked p (k + 1) (drop (k + 1) lines))
picked_by p k lines line h = let e : k + 1 ≡ suc k = omega arith in
    ap (picked p k) (drop_cons lines k line h) ∙ rw e refl

left_taken : (log : Log) (k : ℕ) (line : Line) → slice_get log.lines k ≡ Some line → has k (needed log) ≡ true →
    left_from log k ≡ moved_line (renumbered (needed log)) line ∷ left_from log (k + 1)
left_taken log k line h t = rw (picked_by (λ j. has j (needed log)) k log.lines line h, t) refl

left_skipped : (log : Log) (k : ℕ) (line : Line) → slice_get log.lines k ≡ Some line → has k (needed log) ≡ false →
    left_from log k ≡ left_from log (k + 1)
left_skipped log k line h t = rw (picked_by (λ j. has j (needed log)) k log.lines line h, t) refl

-- what is known once the lines below k have been gone over
pub record IsKeptBelow (I : Instance) (log : Log) (k : ℕ) (kept : OpenLog) (found : List ℕ) : Type 0 where
  pub belongs : Belongs I kept
  pub capacity : kept.capacity ≡ log.capacity
  pub numbered : found ≡ map (renumbered (needed log)) (numbers k)
  pub count : length kept.lines ≡ renumbered (needed log) k
  pub left : kept_lines (needed log) log.lines ≡ kept.lines ++ left_from log k

pub kept_none : (I : Instance) (log : Log) (kept : OpenLog) (found : List ℕ) → Belongs I kept →
    kept.capacity ≡ log.capacity → kept.lines ≡ [] → found ≡ [] → IsKeptBelow I log 0 kept found
unfolding kept_lines renumbered
kept_none I log kept found b c e f = record {
  belongs = b;
  capacity = c;
  numbered = f;
  count = rw e refl;
  left = rw e refl;
}

pub next_number : (I : Instance) (log : Log) (k : ℕ) (kept : OpenLog) (found new : List ℕ) (number : ℕ) →
    IsKeptBelow I log k kept found → number ≡ length kept.lines → new ≡ found ++ number ∷ [] →
    new ≡ map (renumbered (needed log)) (numbers (k + 1))
next_number I log k kept found new number s e h =
    h ∙ (rw (e, s.count, s.numbered) (sym (map-range_with_len_more (renumbered (needed log)) 0 k k (omega arith))))

pub kept_skipped : (I : Instance) (log : Log) (k : ℕ) (kept : OpenLog) (found new : List ℕ) →
    IsKeptBelow I log k kept found → new ≡ map (renumbered (needed log)) (numbers (k + 1)) → k < length log.lines →
    has k (needed log) ≡ false → IsKeptBelow I log (k + 1) kept new
kept_skipped I log k kept found new s n lt t = record {
  belongs = s.belongs;
  capacity = s.capacity;
  numbered = n;
  count = (let e = s.count in let f : renumbered (needed log) (k + 1) ≡ renumbered (needed log) k + 0 =
      renumbered_more (needed log) k ∙ rw t refl in omega arith);
  left = (let r = get_some log.lines k lt in
      s.left ∙ ap (λ ls. kept.lines ++ ls) (left_skipped log k r.0 r.1 t));
}

pub kept_taken : (I : Instance) (log : Log) (k : ℕ) (kept more : OpenLog) (found new : List ℕ) (line made : Line) →
    IsKeptBelow I log k kept found → new ≡ map (renumbered (needed log)) (numbers (k + 1)) →
    slice_get log.lines k ≡ Some line → has k (needed log) ≡ true → made ≡ moved_line (renumbered (needed log)) line →
    Belongs I more → more ≡ record kept { lines = kept.lines ++ made ∷ [] } → IsKeptBelow I log (k + 1) more new
kept_taken I log k kept more found new line made s n h t m b e = record {
  belongs = b;
  capacity = ap (λ (g : OpenLog). g.capacity) e ∙ s.capacity;
  numbered = n;
  count = (let c = s.count in let f : renumbered (needed log) (k + 1) ≡ renumbered (needed log) k + 1 =
      renumbered_more (needed log) k ∙ rw t refl in
      let l = ap length lines in
      let p = length_push kept.lines (moved_line (renumbered (needed log)) line) in omega arith);
  left = s.left ∙ (ap (λ ls. kept.lines ++ ls) (left_taken log k line h t) ∙ rw lines
      (sym (append_assoc kept.lines (moved_line (renumbered (needed log)) line ∷ []) (left_from log (k + 1)))));
}
  where
    lines : more.lines ≡ kept.lines ++ moved_line (renumbered (needed log)) line ∷ []
    lines = ap (λ (g : OpenLog). g.lines) e ∙ ap (λ x. kept.lines ++ x ∷ []) m

get_after : {X : Type 0} (xs : List X) (x : X) (ys : List X) → slice_get (xs ++ x ∷ ys) (length xs) ≡ Some x
get_after [] x ys = refl
get_after (z ∷ xs) x ys = get_after xs x ys

-- the next kept line is legal after those before it
pub legal_next : (I : Instance) (log : Log) (k : ℕ) (kept : OpenLog) (found : List ℕ) (line : Line) →
    IsAccepted I (trimmed log) → IsKeptBelow I log k kept found → slice_get log.lines k ≡ Some line →
    has k (needed log) ≡ true → IsLegal I kept.capacity kept.lines (moved_line (renumbered (needed log)) line)
unfolding trimmed
legal_next I log k kept found line a s h t =
    rw s.capacity (subst (λ (ls : List Line). IsLegal I log.capacity ls moved) before
    (a.legal (length kept.lines) moved (rw whole (get_after kept.lines moved (left_from log (k + 1))))))
  where
    moved : Line
    moved = moved_line (renumbered (needed log)) line

    whole : kept_lines (needed log) log.lines ≡ kept.lines ++ moved_line (renumbered (needed log)) line ∷ left_from log
        (k + 1)
    whole = s.left ∙ ap (λ ls. kept.lines ++ ls) (left_taken log k line h t)

    before : take (length kept.lines) (kept_lines (needed log) log.lines) ≡ kept.lines
    before = rw whole (take_at kept.lines (moved_line (renumbered (needed log)) line ∷ left_from log (k + 1))
        (length kept.lines) refl)
