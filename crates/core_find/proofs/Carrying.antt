-- A log is carried over to fewer buffers, in the words of the code.
use Rattle.std.proofs.Common.{◌≡◌, ℕ, ◌+◌, ◌^◌, ◌<◌, ◌≤◌, ◌⊎◌, inl, inr, Bool, true, false, not, cond, ◌==◌, nat_lt, List, [], ◌∷◌, ◌++◌, All, map, length, slice_get, slice_index, take, Some, None, position, refl, sym, ap, ◌∙◌, subst, arith}
use Rattle.std.proofs.lemmas.List.{get_or_past, length-map, take_all, take_more}
use Rattle.std.proofs.lemmas.List.Sums.{prefix_len-le-length}
use Rattle.std.proofs.lemmas.Option.{get_or_from_slice_get}
use Rattle.std.specs.List.{position_or_len}
use Rattle.dsa_terms.specs.Buffers.{Instance, buffer}
use Rattle.dsa_terms.specs.Claims.{Claim, Entry, IsIn, IsWhole, Rises, buffers_of}
use Rattle.dsa_terms.specs.Logs.{Cite, ByLine, Below, Twin, IsLegal, Line, Log, Over, Cases, claim_of}
use Rattle.dsa_terms.specs.Trims.{IsTrimOf}
use Rattle.dsa_terms.proofs.Lists.{from_map}
use Rattle.dsa_terms.proofs.NumberTests.{below_or_from, not_less}
use Rattle.dsa_terms.proofs.Places.{all_from_in, get_map, in_from_all}
use Rattle.dsa_model.specs.Buffer.{buffer_limit}
use Rattle.dsa_trim_laws.proofs.Picked.{get_in}
use Rattle.dsa_trim_laws.proofs.Trims.{trim_is}
use Rattle.dsa_model.specs.Chosen.{some_of}
use Rattle.canonical_order.specs.Claims.{IsBoundedBy}
use Rattle.refute_log.specs.Lines.{IsCiteWithin, IsWithin}
use Rattle.refute_log.specs.Logs.{Belongs, OpenLog, ended}
use Rattle.core_find.specs.Carried.{NeedsOnly, carried, place_among, places_among, renamed_cite, renamed_claim, renamed_entry, renamed_line, renamed_log}
use Rattle.core_find.proofs.Carried.{carried_is_accepted}

-- ---- places
pub found_place : (b : ℕ) (ms : List ℕ) (place : ℕ) → Some place ≡ position (λ m. m == b) ms → place ≡ place_among b ms
unfolding place_among
found_place b ms place h = go (nat_lt (position_or_len (λ m. m == b) ms) (length ms)) h
  where
    go : (t : Bool) → Some place ≡ cond t (Some (position_or_len (λ m. m == b) ms)) None →
        place ≡ position_or_len (λ m. m == b) ms
    go true e = cc
    go false e = absurd cc

pub no_place : (b : ℕ) (ms : List ℕ) → None ≡ position (λ m. m == b) ms → length ms ≡ place_among b ms
unfolding place_among
no_place b ms h = go (nat_lt (position_or_len (λ m. m == b) ms) (length ms)) refl h
  where
    go : (t : Bool) → nat_lt (position_or_len (λ m. m == b) ms) (length ms) ≡ t →
        None ≡ cond t (Some (position_or_len (λ m. m == b) ms)) None →
        length ms ≡ position_or_len (λ m. m == b) ms
    go true e q = absurd cc
    go false e q =
        let past = not_less (position_or_len (λ m. m == b) ms) (length ms) e in
        let within = prefix_len-le-length (λ m. not (m == b)) ms in
        omega arith

place_limit : (b : ℕ) (ms : List ℕ) → place_among b ms ≤ length ms
unfolding place_among
place_limit b ms = prefix_len-le-length (λ m. not (m == b)) ms

pub places_limit : (before members places : List ℕ) → places ≡ places_among before members →
    length members ≤ buffer_limit →
    All (λ n. n ≤ buffer_limit) places
places_limit before members places is few =
    rw is (all_from_in (λ n. n ≤ buffer_limit) (places_among before members) (λ n i. each n i))
  where
    each : (n : ℕ) → IsIn n (places_among before members) → n ≤ buffer_limit
    each n i =
        let b = from_map (λ b. place_among b members) before n i in
        let same = b.2 in
        let most = place_limit b.0 members in
        omega arith

-- ---- the limits of lines
number_limit : (numbers : List ℕ) (b : ℕ) → All (λ n. n ≤ buffer_limit) numbers → slice_index numbers b ≤ buffer_limit
number_limit numbers b h = go (below_or_from b (length numbers))
  where
    go : (b < length numbers) ⊎ (length numbers ≤ b) → slice_index numbers b ≤ buffer_limit
    go (inl lt) = h b 0 lt
    go (inr past) = let none = get_or_past numbers b 0 past in omega arith

renamed_bounds : (to : ℕ → ℕ) (l : Claim) (limit : ℕ) → IsBoundedBy limit l → IsBoundedBy limit (renamed_claim to l)
renamed_bounds to l limit h e i =
    let f = from_map (renamed_entry to) l e i in
    let same = ap (λ (x : Entry). x.1) f.2 in
    let le = h f.0 f.1 in
    omega arith

cites_within : (numbers : List ℕ) (cites : List Cite) → All (λ n. n ≤ buffer_limit) numbers → All IsCiteWithin cites →
    All IsCiteWithin (map (renamed_cite (slice_index numbers)) cites)
cites_within numbers cites h all =
    all_from_in IsCiteWithin (map (renamed_cite (slice_index numbers)) cites) each
  where
    one : (c : Cite) → IsCiteWithin c → IsCiteWithin (renamed_cite (slice_index numbers) c)
    one (ByLine k) le = le
    one (Below c) le = let few = number_limit numbers c h in omega arith
    one (Twin c) le = let few = number_limit numbers c h in omega arith

    each : (c : Cite) → IsIn c (map (renamed_cite (slice_index numbers)) cites) → IsCiteWithin c
    each c i =
        let d = from_map (renamed_cite (slice_index numbers)) cites c i in
        subst IsCiteWithin (sym d.2) (one d.0 (in_from_all IsCiteWithin cites all d.0 d.1))

pub renamed_within : (numbers : List ℕ) (line : Line) → All (λ n. n ≤ buffer_limit) numbers → IsWithin line →
    IsWithin (renamed_line (slice_index numbers) line)
renamed_within numbers (Over l T H G) h w = (renamed_bounds (slice_index numbers) l (2 ^ 60) w.0, w.1, w.2, w.3)
renamed_within numbers (Cases l cites) h w =
    (renamed_bounds (slice_index numbers) l (2 ^ 60) w.0, cites_within numbers cites h w.1)

-- ---- claims
-- what the pairs are that were gone over
pub all_renamed : (to : ℕ → ℕ) (pairs items l : Claim) (k : ℕ) → pairs ≡ renamed_claim to (take k items) →
    length items ≤ k → items ≡ l → pairs ≡ renamed_claim to l
all_renamed to pairs items l k is past same =
    is ∙ ap (renamed_claim to) (take_all k items past ∙ same)

pub renamed_few : (to : ℕ → ℕ) (pairs l : Claim) → pairs ≡ renamed_claim to l → length l < 2 ^ 32 →
    length pairs < 2 ^ 32
renamed_few to pairs l is few =
    let same = ap length is ∙ length-map l (renamed_entry to) in omega arith

pub renamed_bounded : (to : ℕ → ℕ) (pairs l : Claim) → pairs ≡ renamed_claim to l → IsBoundedBy (2 ^ 60) l →
    IsBoundedBy (2 ^ 60) pairs
renamed_bounded to pairs l is h = rw is (renamed_bounds to l (2 ^ 60) h)

-- ---- the log
-- the first k lines are on a log of their own
pub record IsRenamedBelow (I : Instance) (log : Log) (to : ℕ → ℕ) (k : ℕ) (renamed : OpenLog) : Type 0 where
  pub belongs : Belongs I renamed
  pub capacity : renamed.capacity ≡ log.capacity
  pub lines : renamed.lines ≡ take k (map (renamed_line to) log.lines)

pub none_renamed : (I : Instance) (log : Log) (to : ℕ → ℕ) (renamed : OpenLog) → Belongs I renamed →
    renamed ≡ record { count = length I; capacity = log.capacity; lines = [] } → IsRenamedBelow I log to 0 renamed
none_renamed I log to renamed belongs is = record {
  belongs = belongs;
  capacity = ap (λ (g : OpenLog). g.capacity) is;
  lines = ap (λ (g : OpenLog). g.lines) is;
}

-- the next line is legal after those that are there
pub next_legal : (I : Instance) (log : Log) (to : ℕ → ℕ) (n k : ℕ) (renamed : OpenLog) (line : Line) →
    Belongs I (renamed_log n to log) → IsRenamedBelow I log to k renamed → slice_get log.lines k ≡ Some line →
    IsLegal I renamed.capacity renamed.lines (renamed_line to line)
next_legal I log to n k renamed line belongs h at =
    rw (h.capacity, h.lines) (belongs.legal k (renamed_line to line) (get_map (renamed_line to) log.lines k line at))

-- so its buffers rise
pub next_rises : (I : Instance) (log : Log) (to : ℕ → ℕ) (n k : ℕ) (line : Line) → Belongs I (renamed_log n to log) →
    slice_get log.lines k ≡ Some line → Rises (buffers_of (claim_of (renamed_line to line)))
next_rises I log to n k line belongs at =
    (belongs.legal k (renamed_line to line) (get_map (renamed_line to) log.lines k line at)).claim.rises

pub one_renamed : (I : Instance) (log : Log) (to : ℕ → ℕ) (k : ℕ) (renamed more : OpenLog) (line made : Line) →
    IsRenamedBelow I log to k renamed → slice_get log.lines k ≡ Some line → made ≡ renamed_line to line →
    Belongs I more → more ≡ record renamed { lines = renamed.lines ++ made ∷ [] } →
    IsRenamedBelow I log to (k + 1) more
one_renamed I log to k renamed more line made h at is belongs appended = record {
  belongs = belongs;
  capacity = ap (λ (g : OpenLog). g.capacity) appended ∙ h.capacity;
  lines = ap (λ (g : OpenLog). g.lines) appended ∙ rw (is, h.lines) (sym next);
}
  where
    new : slice_get (map (renamed_line to) log.lines) k ≡ Some (renamed_line to line)
    new = get_map (renamed_line to) log.lines k line at

    next : take (k + 1) (map (renamed_line to) log.lines)
        ≡ take k (map (renamed_line to) log.lines) ++ renamed_line to line ∷ []
    next = take_more (map (renamed_line to) log.lines) k line
        (get_in (map (renamed_line to) log.lines) k (renamed_line to line) new)
        ∙ ap (λ (x : Line). take k (map (renamed_line to) log.lines) ++ x ∷ [])
        (get_or_from_slice_get (map (renamed_line to) log.lines) k (renamed_line to line) line new)

pub whole_renamed_log : (I : Instance) (log : Log) (to : ℕ → ℕ) (k : ℕ) (renamed : OpenLog) → length log.lines ≤ k →
    IsRenamedBelow I log to k renamed → renamed ≡ renamed_log (length I) to log
whole_renamed_log I log to k renamed past h =
    rw (← h.belongs.same_count, ← h.capacity, ← all) refl
  where
    all : renamed.lines ≡ map (renamed_line to) log.lines
    all = h.lines ∙ take_all k (map (renamed_line to) log.lines)
        (let same = length-map log.lines (renamed_line to) in omega arith)

-- ---- the carried log
-- it belongs to the instance of the members, of which its end is a whole line
pub record IsReady (K : Instance) (log : Log) (numbers : List ℕ) : Type 0 where
  pub belongs : Belongs K (renamed_log (length K) (slice_index numbers) log)
  pub end : (line : Line) × (slice_get (map (renamed_line (slice_index numbers)) log.lines) log.final ≡ Some line)
      × IsWhole K (claim_of line)

pub is_ready : (I some : Instance) (before members numbers : List ℕ) (log kept : Log) → some ≡ some_of I members →
    IsTrimOf log kept → numbers ≡ places_among before members → Rises members → NeedsOnly I before members log →
    IsReady some kept numbers
unfolding carried
is_ready I some before members numbers log kept is of places r needs =
    let trim = trim_is (some_of I before) log kept needs.accepted of in
    let a = carried_is_accepted I before members log r needs in
    rw (is, trim, places) record { belongs = record { same_count = refl; legal = a.legal }; end = a.whole }

pub ended_is_carried : (I some : Instance) (before members numbers : List ℕ) (log kept closed : Log) (renamed : OpenLog)
    (end : ℕ) → some ≡ some_of I members → NeedsOnly I before members log → IsTrimOf log kept →
    numbers ≡ places_among before members →
    renamed ≡ renamed_log (length some) (slice_index numbers) kept → end ≡ kept.final → closed ≡ ended renamed end →
    closed ≡ carried before members log
unfolding carried
ended_is_carried I some before members numbers log kept closed renamed end is needs of places all at closing =
    let trim = trim_is (some_of I before) log kept needs.accepted of in
    closing ∙ rw (all, at, places, trim, is, length-map members (buffer I)) refl
