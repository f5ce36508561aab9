-- The lines that the end of a log needs name no buffers but those of the end.
use Rattle.std.proofs.Common.{◌≡◌, ℕ, zero, suc, ◌+◌, ◌-◌, ◌<◌, ◌≤◌, ◌⊎◌, inl, inr, not, ◌==◌, max, List, [], ◌∷◌, length, filter, slice_get, take, Some, refl, sym, ap, ◌∙◌, subst, arith}
use Rattle.std.specs.List.{AllZip, flat_map}
use Rattle.dsa_terms.specs.Buffers.{Instance}
use Rattle.dsa_terms.specs.Claims.{Claim, Covers, Entry, IsIn, buffers_of, child, step, up}
use Rattle.dsa_terms.specs.Logs.{Cite, ByLine, Below, Twin, IsAccepted, IsLegalCite, IsLegalReason, Line, Log, Over, Cases, claim_of}
use Rattle.dsa_terms.specs.Trims.{IsCited}
use Rattle.dsa_trim_laws.specs.Trimmed.{cited, cited_line, trimmed}
use Rattle.dsa_terms.proofs.Lists.{from_append, from_filter, from_map, into_map, same_some}
use Rattle.dsa_trim_laws.proofs.Needed.{cites_are}
use Rattle.dsa_trim_laws.proofs.Picked.{get_in, into_take}
use Rattle.dsa_trim_laws.proofs.Trims.{trimmed_end, trimmed_is_accepted, trimmed_is_cited}
use Rattle.core_find.specs.Carried.{IsEnd}
use Rattle.core_find.specs.Cores.{AreAmong}

-- ---- what covers a child
in_child : (J : Instance) (l : Claim) (e x : Entry) → IsIn x (child J l e) → IsIn x.0 (buffers_of l)
unfolding child
in_child J l e x i =
    let f = from_map (λ (f : Entry). (f.0, max (up J f) (up J e + step J e.0 f.0))) (filter (λ f. not (f.0 == e.0)) l)
    x i in
    subst (λ b. IsIn b (buffers_of l)) (sym (ap (λ (y : Entry). y.0) f.2))
    (into_map (λ (y : Entry). y.0) l f.0 (from_filter (λ f. not (f.0 == e.0)) l f.0 f.1).0)

covering_names : (J : Instance) (k l : Claim) (e : Entry) → Covers J k (child J l e) →
    AreAmong (buffers_of k) (buffers_of l)
covering_names J k l e c b i =
    let x = from_map (λ (y : Entry). y.0) k b i in
    let f = c x.0 x.1 in
    subst (λ b. IsIn b (buffers_of l)) (f.2 ∙ sym x.2) (in_child J l e f.0 f.1)

-- ---- what a line cites
-- the line of that number names none but these buffers
abbrev NamesOnly : List Line → ℕ → List ℕ → Type 0
NamesOnly lines k bs = (line : Line) → slice_get lines k ≡ Some line → AreAmong (buffers_of (claim_of line)) bs

cites_name : (J : Instance) (earlier : List Line) (l m : Claim) (cites : List Cite) (k : ℕ) →
    AllZip (IsLegalCite J earlier l) m cites → IsIn k (flat_map cited_line cites) → NamesOnly earlier k (buffers_of l)
cites_name J earlier l m [] k z i = absurd i
cites_name J earlier l [] (c ∷ cs) k z i = absurd z
cites_name J earlier l (e ∷ es) (c ∷ cs) k z i =
    go c z.0 (from_append (cited_line c) (flat_map cited_line cs) k i) (λ j. cites_name J earlier l es cs k z.1 j)
  where
    go : (c : Cite) → IsLegalCite J earlier l e c → IsIn k (cited_line c) ⊎ IsIn k (flat_map cited_line cs) →
        (IsIn k (flat_map cited_line cs) → NamesOnly earlier k (buffers_of l)) → NamesOnly earlier k (buffers_of l)
    go c h (inr j) ih = ih j
    go (ByLine n) h (inl (inl q)) ih = λ line at.
        let same : h.0 ≡ line = same_some (sym h.1 ∙ ap (slice_get earlier) (sym q) ∙ at) in
        subst (λ (x : Line). AreAmong (buffers_of (claim_of x)) (buffers_of l)) same
        (covering_names J (claim_of h.0) l e h.2)
    go (ByLine n) h (inl (inr q)) ih = absurd q
    go (Below d) h (inl q) ih = absurd q
    go (Twin d) h (inl q) ih = absurd q

line_names : (J : Instance) (C : ℕ) (earlier : List Line) (line : Line) (k : ℕ) → IsLegalReason J C earlier line →
    IsIn k (cited line) → NamesOnly earlier k (buffers_of (claim_of line))
line_names J C earlier (Over l T H G) k r i = absurd i
line_names J C earlier (Cases l cites) k r i = cites_name J earlier l l cites k r i

-- ---- each line of a log whose lines but the last are cited by later ones
-- the line of number k, where no more than n lines come from it on
names_from : (J : Instance) (log : Log) (last : Line) → IsAccepted J log → IsEnd log last →
    log.final ≡ length log.lines - 1 → ((k : ℕ) → suc k < length log.lines → IsCited log.lines k) → (n k : ℕ) →
    length log.lines ≤ k + n → NamesOnly log.lines k (buffers_of (claim_of last))
names_from J log last a end final later zero k le line at =
    absurd (let lt = get_in log.lines k line at in omega arith)
names_from J log last a end final later (suc n) k le line at =
    go (names_from J log last a end final later n) (cases (suc k) (length log.lines))
  where
    cases : (m n : ℕ) → (m < n) ⊎ (n ≤ m)
    cases m n = grind arith

    cited_by : (c : IsCited log.lines k) → AreAmong (buffers_of (claim_of line)) (buffers_of (claim_of c.line))
    cited_by c =
        line_names J log.capacity (take c.number log.lines) c.line k
        (a.legal c.number c.line c.there).reason ((cites_are c.line k).0 c.cites) line
        (into_take log.lines c.number k line at c.later)

    go : ((j : ℕ) → length log.lines ≤ j + n → NamesOnly log.lines j (buffers_of (claim_of last))) →
        (suc k < length log.lines) ⊎ (length log.lines ≤ suc k) →
        AreAmong (buffers_of (claim_of line)) (buffers_of (claim_of last))
    go ih (inl lt) = λ b i.
        let c = later k lt in
        ih c.number (let m = c.later in omega arith) c.line c.there b (cited_by c b i)
    go ih (inr past) =
        let within = get_in log.lines k line at in
        let is_last : k ≡ log.final = omega arith in
        let same : line ≡ last = same_some (sym at ∙ ap (slice_get log.lines) is_last ∙ end) in
        subst (λ (x : Line). AreAmong (buffers_of (claim_of line)) (buffers_of (claim_of x))) same (λ b i. i)

-- the end of a trimmed log is its last line
ends_last : (log : Log) → (trimmed log).final ≡ length (trimmed log).lines - 1
unfolding trimmed
ends_last log = refl

-- the kept lines of an accepted log name none but the buffers of its end
pub kept_names : (J : Instance) (log : Log) (last : Line) → IsAccepted J log → IsEnd log last → (k : ℕ) (line : Line) →
    slice_get (trimmed log).lines k ≡ Some line → AreAmong (buffers_of (claim_of line)) (buffers_of (claim_of last))
kept_names J log last a end k line at =
    let t = trimmed_end J log last a end in
    subst (λ (l : Claim). AreAmong (buffers_of (claim_of line)) (buffers_of l)) t.2
    (names_from J (trimmed log) t.0 (trimmed_is_accepted J log a) t.1 (ends_last log)
    (λ k lt. trimmed_is_cited J log k a lt) (length (trimmed log).lines) k (omega arith) line at)
