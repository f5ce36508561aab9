-- Tests that decide whether a line is legal, for the worked facts alone.
use Rattle.std.proofs.Common.{◌≡◌, ℕ, ◌+◌, ◌-◌, ◌%◌, ◌≢◌, ◌↔◌, Bool, true, false, not, ◌&&◌, ◌==◌, nat_le, nat_lt, List, [], ◌∷◌, map, length, filter, sum_by, slice_get, Option, Some, None, refl}
use Rattle.std.specs.List.{list_all, list_any, AllZip}
use Rattle.dsa_terms.specs.Buffers.{Instance}
use Rattle.dsa_terms.specs.Claims.{Claim, Entry, IsIn, Rises, buffers_of, IsClaim, up, child, Covers}
use Rattle.dsa_terms.specs.Logs.{is_stacked, rounded, rounding, greatest, IsOver, ends_below, is_twin, Cite, ByLine, Below, Twin, Line, Over, Cases, claim_of, IsLegalCite, IsLegalReason, IsLegal}
use Rattle.dsa_terms.specs.Parts.{is_empty}
use Rattle.dsa_terms.proofs.Lists.{any_gives, any_from, all_at, all_from}
use Rattle.dsa_terms.proofs.Moments.{and_true, both_true}
use Rattle.dsa_terms.proofs.NumberTests.{at_most, equal, is_at_most, is_below, less, same}

-- ---- covering
unfoldable pub does_cover : Instance → Claim → Claim → Bool
does_cover I k l = list_all (λ (e : Entry). list_any (λ (f : Entry). (f.0 == e.0) && nat_le e.1 (up I f)) l) k

covers_gives : (I : Instance) (k l : Claim) → does_cover I k l ≡ true → Covers I k l
unfolding does_cover
covers_gives I k l h e i =
    let q = any_gives (λ (f : Entry). (f.0 == e.0) && nat_le e.1 (up I f)) l
    (all_at (λ (e : Entry). list_any (λ (f : Entry). (f.0 == e.0) && nat_le e.1 (up I f)) l) k e h i) in
    let r = and_true _ _ q.2 in
    (q.0, q.1, equal q.0.0 e.0 r.0, at_most e.1 (up I q.0) r.1)

covers_from : (I : Instance) (k l : Claim) → Covers I k l → does_cover I k l ≡ true
unfolding does_cover
covers_from I k l h = all_from (λ (e : Entry). list_any (λ (f : Entry). (f.0 == e.0) && nat_le e.1 (up I f)) l) k
    (λ e i.
    let q = h e i in
    any_from (λ (f : Entry). (f.0 == e.0) && nat_le e.1 (up I f)) l q.0 q.1
    (both_true _ _ (same q.0.0 e.0 q.2) (is_at_most e.1 (up I q.0) q.3)))

pub covers_exactly : (I : Instance) (k l : Claim) → (does_cover I k l ≡ true) ↔ Covers I k l
covers_exactly I k l = (covers_gives I k l, covers_from I k l)

-- ---- claims
unfoldable pub do_rise : List ℕ → Bool
do_rise [] = true
do_rise (x ∷ xs) = list_all (nat_lt x) xs && do_rise xs

rise_gives : (xs : List ℕ) → do_rise xs ≡ true → Rises xs
unfolding do_rise
rise_gives [] h = tt
rise_gives (x ∷ xs) h =
    let r = and_true (list_all (nat_lt x) xs) (do_rise xs) h in
    ((λ y i. less x y (all_at (nat_lt x) xs y r.0 i)), rise_gives xs r.1)

rise_from : (xs : List ℕ) → Rises xs → do_rise xs ≡ true
unfolding do_rise
rise_from [] h = refl
rise_from (x ∷ xs) h = both_true _ _ (all_from (nat_lt x) xs (λ y i. is_below x y (h.0 y i))) (rise_from xs h.1)

unfoldable pub is_claim : Instance → Claim → Bool
is_claim I l = do_rise (buffers_of l) && list_all (λ (e : Entry). nat_lt e.0 (length I)) l

claim_gives : (I : Instance) (l : Claim) → is_claim I l ≡ true → IsClaim I l
unfolding is_claim
claim_gives I l h =
    let r = and_true (do_rise (buffers_of l)) (list_all (λ (e : Entry). nat_lt e.0 (length I)) l) h in
    record {
      rises = rise_gives (buffers_of l) r.0;
      in_range = λ e i. less e.0 (length I) (all_at (λ (e : Entry). nat_lt e.0 (length I)) l e r.1 i);
    }

claim_from : (I : Instance) (l : Claim) → IsClaim I l → is_claim I l ≡ true
unfolding is_claim
claim_from I l h = both_true _ _ (rise_from (buffers_of l) h.rises)
    (all_from (λ (e : Entry). nat_lt e.0 (length I)) l (λ e i. is_below e.0 (length I) (h.in_range e i)))

some_gives : {X : Type 0} (xs : List X) → not (is_empty xs) ≡ true → xs ≢ []
some_gives [] h q = cc
some_gives (x ∷ xs) h q = cc

some_from : {X : Type 0} (xs : List X) → xs ≢ [] → not (is_empty xs) ≡ true
some_from [] h = absurd (h refl)
some_from (x ∷ xs) h = refl

-- ---- Over lines
unfoldable pub is_over : Instance → ℕ → ℕ → ℕ → ℕ → Claim → Bool
is_over I C T H G l =
    nat_le 1 G && ((H % G == 0) && (not (is_empty (filter (is_stacked I T H G) l))
    && nat_lt C (H + sum_by (rounded I G) (filter (is_stacked I T H G) l)
    - greatest (map (rounding I G) (filter (is_stacked I T H G) l)))))

over_gives : (I : Instance) (C T H G : ℕ) (l : Claim) → is_over I C T H G l ≡ true → IsOver I C T H G l
unfolding is_over
over_gives I C T H G l h =
    let a = and_true (nat_le 1 G) _ h in
    let b = and_true (H % G == 0) _ a.1 in
    let c = and_true (not (is_empty (filter (is_stacked I T H G) l))) _ b.1 in
    record {
      modulus = at_most 1 G a.0;
      from_multiple = equal (H % G) 0 b.0;
      some_stacked = some_gives (filter (is_stacked I T H G) l) c.0;
      too_high = less C _ c.1;
    }

over_from : (I : Instance) (C T H G : ℕ) (l : Claim) → IsOver I C T H G l → is_over I C T H G l ≡ true
unfolding is_over
over_from I C T H G l h = both_true _ _ (is_at_most 1 G h.modulus) (both_true _ _ (same (H % G) 0 h.from_multiple)
    (both_true _ _ (some_from (filter (is_stacked I T H G) l) h.some_stacked) (is_below C _ h.too_high)))

-- ---- Cases lines
covers_child : Instance → Claim → Entry → Option Line → Bool
covers_child I l e None = false
covers_child I l e (Some line) = does_cover I (claim_of line) (child I l e)

unfoldable pub is_legal_cite : Instance → List Line → Claim → Entry → Cite → Bool
unfolding covers_child
is_legal_cite I earlier l e (ByLine k) = covers_child I l e (slice_get earlier k)
is_legal_cite I earlier l e (Below c) = list_any (λ f. (f.0 == c) && ends_below I f e) l
is_legal_cite I earlier l e (Twin c) = list_any (λ f. (f.0 == c) && is_twin I f e) l

pub other_gives : (test : Entry → Bool) (l : Claim) (c : ℕ) → list_any (λ f. (f.0 == c) && test f) l ≡ true →
    (f : Entry) × IsIn f l × (f.0 ≡ c) × (test f ≡ true)
other_gives test l c h =
    let q = any_gives (λ (f : Entry). (f.0 == c) && test f) l h in
    let r = and_true _ _ q.2 in
    (q.0, q.1, equal q.0.0 c r.0, r.1)

pub other_from : (test : Entry → Bool) (l : Claim) (c : ℕ) → (f : Entry) × IsIn f l × (f.0 ≡ c) × (test f ≡ true) →
    list_any (λ f. (f.0 == c) && test f) l ≡ true
other_from test l c h =
    any_from (λ (f : Entry). (f.0 == c) && test f) l h.0 h.1 (both_true _ _ (same h.0.0 c h.2) h.3)

cite_gives : (I : Instance) (earlier : List Line) (l : Claim) (e : Entry) (cite : Cite) →
    is_legal_cite I earlier l e cite ≡ true → IsLegalCite I earlier l e cite
unfolding is_legal_cite covers_child
cite_gives I earlier l e (ByLine k) h = go (slice_get earlier k) h
  where
    go : (o : Option Line) → covers_child I l e o ≡ true →
        (line : Line) × (o ≡ Some line) × Covers I (claim_of line) (child I l e)
    go None h = absurd cc
    go (Some line) h = (line, refl, covers_gives I (claim_of line) (child I l e) h)
cite_gives I earlier l e (Below c) h = other_gives (λ f. ends_below I f e) l c h
cite_gives I earlier l e (Twin c) h = other_gives (λ f. is_twin I f e) l c h

cite_from : (I : Instance) (earlier : List Line) (l : Claim) (e : Entry) (cite : Cite) →
    IsLegalCite I earlier l e cite → is_legal_cite I earlier l e cite ≡ true
unfolding is_legal_cite covers_child
cite_from I earlier l e (ByLine k) h = rw h.1 (covers_from I (claim_of h.0) (child I l e) h.2)
cite_from I earlier l e (Below c) h = other_from (λ f. ends_below I f e) l c h
cite_from I earlier l e (Twin c) h = other_from (λ f. is_twin I f e) l c h

unfoldable pub are_legal_cites : Instance → List Line → Claim → Claim → List Cite → Bool
are_legal_cites I earlier l [] [] = true
are_legal_cites I earlier l [] (c ∷ cs) = false
are_legal_cites I earlier l (e ∷ es) [] = false
are_legal_cites I earlier l (e ∷ es) (c ∷ cs) = is_legal_cite I earlier l e c && are_legal_cites I earlier l es cs

cites_give : (I : Instance) (earlier : List Line) (l es : Claim) (cites : List Cite) →
    are_legal_cites I earlier l es cites ≡ true → AllZip (IsLegalCite I earlier l) es cites
unfolding are_legal_cites
cites_give I earlier l [] [] h = tt
cites_give I earlier l [] (c ∷ cs) h = absurd cc
cites_give I earlier l (e ∷ es) [] h = absurd cc
cites_give I earlier l (e ∷ es) (c ∷ cs) h =
    let r = and_true (is_legal_cite I earlier l e c) (are_legal_cites I earlier l es cs) h in
    (cite_gives I earlier l e c r.0, cites_give I earlier l es cs r.1)

cites_from : (I : Instance) (earlier : List Line) (l es : Claim) (cites : List Cite) →
    AllZip (IsLegalCite I earlier l) es cites → are_legal_cites I earlier l es cites ≡ true
unfolding are_legal_cites
cites_from I earlier l [] [] h = refl
cites_from I earlier l [] (c ∷ cs) h = absurd h
cites_from I earlier l (e ∷ es) [] h = absurd h
cites_from I earlier l (e ∷ es) (c ∷ cs) h =
    both_true _ _ (cite_from I earlier l e c h.0) (cites_from I earlier l es cs h.1)

-- ---- lines
unfoldable pub has_reason : Instance → ℕ → List Line → Line → Bool
has_reason I C earlier (Over l T H G) = is_over I C T H G l
has_reason I C earlier (Cases l cites) = are_legal_cites I earlier l l cites

unfoldable pub is_legal : Instance → ℕ → List Line → Line → Bool
is_legal I C earlier line =
    is_claim I (claim_of line) && (not (is_empty (claim_of line)) && has_reason I C earlier line)

reason_gives : (I : Instance) (C : ℕ) (earlier : List Line) (line : Line) →
    has_reason I C earlier line ≡ true → IsLegalReason I C earlier line
unfolding has_reason
reason_gives I C earlier (Over l T H G) h = over_gives I C T H G l h
reason_gives I C earlier (Cases l cites) h = cites_give I earlier l l cites h

reason_from : (I : Instance) (C : ℕ) (earlier : List Line) (line : Line) →
    IsLegalReason I C earlier line → has_reason I C earlier line ≡ true
unfolding has_reason
reason_from I C earlier (Over l T H G) h = over_from I C T H G l h
reason_from I C earlier (Cases l cites) h = cites_from I earlier l l cites h

pub legal : (I : Instance) (C : ℕ) (earlier : List Line) (line : Line) →
    is_legal I C earlier line ≡ true → IsLegal I C earlier line
unfolding is_legal
legal I C earlier line h =
    let a = and_true (is_claim I (claim_of line)) _ h in
    let b = and_true (not (is_empty (claim_of line))) _ a.1 in
    record {
      claim = claim_gives I (claim_of line) a.0;
      not_empty = some_gives (claim_of line) b.0;
      reason = reason_gives I C earlier line b.1;
    }

pub legal_passes : (I : Instance) (C : ℕ) (earlier : List Line) (line : Line) →
    IsLegal I C earlier line → is_legal I C earlier line ≡ true
unfolding is_legal
legal_passes I C earlier line h = both_true _ _ (claim_from I (claim_of line) h.claim)
    (both_true _ _ (some_from (claim_of line) h.not_empty) (reason_from I C earlier line h.reason))

pub not_legal : (I : Instance) (C : ℕ) (earlier : List Line) (line : Line) →
    is_legal I C earlier line ≡ false → IsLegal I C earlier line → ⊥
not_legal I C earlier line h k = let q = legal_passes I C earlier line k in cc
