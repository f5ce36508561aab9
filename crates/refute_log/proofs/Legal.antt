-- A line without a reason is legal, and a legal line has none.
use Rattle.std.proofs.Common.{◌≡◌, ℕ, zero, suc, ◌%◌, ◌<◌, ◌≤◌, ◌≢◌, inl, inr, Bool, true, false, not, cond, ◌&&◌, ◌==◌, List, [], ◌∷◌, ◌++◌, length, Option, Some, None, slice_get, take, find, nat_le, option_map, map, All, refl, sym, ap, ◌∙◌, arith}
use Rattle.std.proofs.lemmas.Bool.Decides.{nat_tests}
use Rattle.std.proofs.lemmas.List.{map-append, take-append-le}
use Rattle.dsa_terms.proofs.Lists.{from_map}
use Rattle.std.proofs.lemmas.List.Elements.{All-push}
use Rattle.refute_log.specs.Lines.{IsWithin, IsLineKept, HasCites}
use Rattle.std.specs.Option.{option_or}
use Rattle.std.specs.List.{AllZip, list_any}
use Rattle.dsa_terms.specs.Buffers.{Instance}
use Rattle.dsa_terms.specs.Claims.{Claim, Entry, IsIn, buffers_of, Covers, child, IsWhole}
use Rattle.dsa_terms.specs.Logs.{Line, Over, Cases, Cite, ByLine, Below, Twin, claim_of, IsLegal, IsOver, IsLegalCite, IsLegalReason, Log, IsAccepted, ends_below, is_twin, stacked, stack_height}
use Rattle.dsa_terms.specs.Parts.{is_empty}
use Rattle.dsa_terms.specs.Firsts.{when}
use Rattle.canonical_order.specs.Stands.{Stands}
use Rattle.dsa_terms.proofs.NumberTests.{equal, same, apart, above, not_at_most, below_or_from}
use Rattle.dsa_model.specs.Buffer.{buffer_limit}
use Rattle.dsa_model.proofs.Faults.{neither, not_so}
use Rattle.refute_log.specs.Reasons.{first_reason, claim_reason, rule_reason, over_reason, cite_reason, cites_reason, line_reason, covers}
use Rattle.refute_log.specs.Logs.{OpenLog, Belongs, ended}
use Rattle.refute_log.specs.declared.reason.Reason.TheVariants as reason
use Rattle.dsa_search_laws.proofs.LineTests.{other_gives, other_from}
use Rattle.refute_log.proofs.ListTests.{covers_gives, covers_from}

both_none : {F : Type 0} (a b : Option F) → a ≡ None → b ≡ None → option_or a b ≡ None
both_none None b h k = k
both_none (Some x) b h k = absurd cc

pub so : {F : Type 0} (b : Bool) (f : F) → when (not b) f ≡ None → b ≡ true
so true f h = refl
so false f h = absurd cc

none_when : {F : Type 0} (b : Bool) (f : F) → b ≡ false → when b f ≡ None
none_when true f h = absurd cc
none_when false f h = refl

none_unless : {F : Type 0} (b : Bool) (f : F) → b ≡ true → when (not b) f ≡ None
none_unless true f h = refl
none_unless false f h = absurd cc

-- ---- cites
line_legal : (I : Instance) (earlier : List Line) (l : Claim) (e : Entry) (k : ℕ) →
    line_reason I l e (slice_get earlier k) ≡ None → IsLegalCite I earlier l e (ByLine k)
line_legal I earlier l e k h = go (slice_get earlier k) refl h
  where
    go : (o : Option Line) → slice_get earlier k ≡ o → line_reason I l e o ≡ None →
        (line : Line) × (slice_get earlier k ≡ Some line) × Covers I (claim_of line) (child I l e)
    go None q h = absurd cc
    go (Some line) q h = (
      line,
      q,
      covers_gives I (claim_of line) (child I l e)
          (so (covers I (claim_of line) (child I l e)) (reason.NotCovered e.0) h),
    )

cite_legal : (I : Instance) (earlier : List Line) (l : Claim) (e : Entry) (cite : Cite) →
    cite_reason I earlier l e cite ≡ None → IsLegalCite I earlier l e cite
cite_legal I earlier l e (ByLine k) h = line_legal I earlier l e k h
cite_legal I earlier l e (Below c) h = other_gives (λ f. ends_below I f e) l c
    (so (list_any (λ f. (f.0 == c) && ends_below I f e) l) (reason.NotBelow e.0) h)
cite_legal I earlier l e (Twin c) h = other_gives (λ f. is_twin I f e) l c
    (so (list_any (λ f. (f.0 == c) && is_twin I f e) l) (reason.NotTwin e.0) h)

cite_none : (I : Instance) (earlier : List Line) (l : Claim) (e : Entry) (cite : Cite) →
    IsLegalCite I earlier l e cite → cite_reason I earlier l e cite ≡ None
cite_none I earlier l e (ByLine k) h = rw h.1 (none_unless (covers I (claim_of h.0) (child I l e))
    (reason.NotCovered e.0) (covers_from I (claim_of h.0) (child I l e) h.2))
cite_none I earlier l e (Below c) h = none_unless (list_any (λ f. (f.0 == c) && ends_below I f e) l)
    (reason.NotBelow e.0) (other_from (λ f. ends_below I f e) l c h)
cite_none I earlier l e (Twin c) h = none_unless (list_any (λ f. (f.0 == c) && is_twin I f e) l) (reason.NotTwin e.0)
    (other_from (λ f. is_twin I f e) l c h)

cites_legal : (I : Instance) (earlier : List Line) (l es : Claim) (cites : List Cite) → length cites ≡ length es →
    cites_reason I earlier l es cites ≡ None → AllZip (IsLegalCite I earlier l) es cites
cites_legal I earlier l [] [] n h = tt
cites_legal I earlier l [] (c ∷ cs) n h = absurd (omega arith)
cites_legal I earlier l (e ∷ es) [] n h = absurd (omega arith)
cites_legal I earlier l (e ∷ es) (c ∷ cs) n h = let q = neither _ _ h in
    (cite_legal I earlier l e c q.0, cites_legal I earlier l es cs (omega arith) q.1)

cites_none : (I : Instance) (earlier : List Line) (l es : Claim) (cites : List Cite) →
    AllZip (IsLegalCite I earlier l) es cites → (length cites ≡ length es) × (cites_reason I earlier l es cites ≡ None)
cites_none I earlier l [] [] h = (refl, refl)
cites_none I earlier l [] (c ∷ cs) h = absurd h
cites_none I earlier l (e ∷ es) [] h = absurd h
cites_none I earlier l (e ∷ es) (c ∷ cs) h = let q = cites_none I earlier l es cs h.1 in
    (ap suc q.0, both_none _ _ (cite_none I earlier l e c h.0) q.1)

-- ---- Over lines
not_empty : {X : Type 0} (xs : List X) → is_empty xs ≡ false → xs ≢ []
not_empty [] h = absurd cc
not_empty (x ∷ xs) h = λ e. cc

is_not_empty : {X : Type 0} (xs : List X) → xs ≢ [] → is_empty xs ≡ false
is_not_empty [] h = absurd (h refl)
is_not_empty (x ∷ xs) h = refl

over_legal : (I : Instance) (C : ℕ) (l : Claim) (T H G : ℕ) → over_reason I C l T H G ≡ None → IsOver I C T H G l
over_legal I C l T H G h =
    let one = neither _ _ h in let two = neither _ _ one.1 in let three = neither _ _ two.1 in let four =
    neither _ _ three.1 in
    record {
      modulus = positive G (not_so (G == 0) reason.ZeroModulus one.0);
      from_multiple = equal (H % G) 0 (so (H % G == 0) reason.NotMultiple two.0);
      some_stacked = not_empty (stacked I l T H G) (not_so (is_empty (stacked I l T H G)) reason.EmptySet three.0);
      too_high = above (stack_height I H G (stacked I l T H G)) C
          (not_so (nat_le (stack_height I H G (stacked I l T H G)) C) reason.NotOver four.0);
    }
  where
    positive : (n : ℕ) → (n == 0) ≡ false → 1 ≤ n
    positive n h = grind (arith, nat_tests)

over_none : (I : Instance) (C : ℕ) (l : Claim) (T H G : ℕ) → IsOver I C T H G l → over_reason I C l T H G ≡ None
over_none I C l T H G h =
    both_none _ _ (none_when (G == 0) reason.ZeroModulus (apart G 0 (let k : 1 ≤ G = h.modulus in omega arith)))
    (both_none _ _ (none_unless (H % G == 0) reason.NotMultiple (same (H % G) 0 h.from_multiple))
    (both_none _ _ (none_when (is_empty (stacked I l T H G)) reason.EmptySet
    (is_not_empty (stacked I l T H G) h.some_stacked))
    (both_none _ _ (none_when (nat_le (stack_height I H G (stacked I l T H G)) C) reason.NotOver
    (not_at_most (stack_height I H G (stacked I l T H G)) C h.too_high)) refl)))

-- ---- lines
rule_legal : (I : Instance) (C : ℕ) (earlier : List Line) (line : Line) → rule_reason I C earlier line ≡ None →
    IsLegalReason I C earlier line
rule_legal I C earlier (Over l T H G) h = over_legal I C l T H G h
rule_legal I C earlier (Cases l cites) h = let q = neither _ _ h in
    cites_legal I earlier l l cites
    (equal (length cites) (length l) (so (length cites == length l) reason.CitesDiffer q.0)) q.1

rule_none : (I : Instance) (C : ℕ) (earlier : List Line) (line : Line) → IsLegalReason I C earlier line →
    rule_reason I C earlier line ≡ None
rule_none I C earlier (Over l T H G) h = over_none I C l T H G h
rule_none I C earlier (Cases l cites) h = let q = cites_none I earlier l l cites h in
    both_none _ _ (none_unless (length cites == length l) reason.CitesDiffer (same (length cites) (length l) q.0)) q.1

pub is_legal : (I : Instance) (C : ℕ) (earlier : List Line) (line : Line) → Stands I (claim_of line) →
    first_reason I C earlier line ≡ None → IsLegal I C earlier line
is_legal I C earlier line s h =
    let q = neither (claim_reason I (claim_of line)) (rule_reason I C earlier line) h in
    let r = neither _ _ q.0 in
    record {
      claim = s.claim;
      not_empty = not_empty (claim_of line) (not_so (is_empty (claim_of line)) reason.EmptyClaim r.0);
      reason = rule_legal I C earlier line q.1;
    }

none_beyond : (n : ℕ) (bs : List ℕ) → ((b : ℕ) → IsIn b bs → b < n) → find (λ b. nat_le n b) bs ≡ None
none_beyond n [] h = refl
none_beyond n (b ∷ bs) h = rw (not_at_most n b (h b (inl refl))) (none_beyond n bs (λ c i. h c (inr i)))

pub all_within : (n : ℕ) (bs : List ℕ) → None ≡ find (λ b. nat_le n b) bs → (b : ℕ) → IsIn b bs → b < n
all_within n [] h b i = absurd i
all_within n (c ∷ cs) h b i = go (nat_le n c) refl h i (all_within n cs)
  where
    go : (t : Bool) → nat_le n c ≡ t → None ≡ cond t (Some c) (find (λ b. nat_le n b) cs) → IsIn b (c ∷ cs) →
        (None ≡ find (λ b. nat_le n b) cs → (b : ℕ) → IsIn b cs → b < n) → b < n
    go true e h i ih = absurd cc
    go false e h (inl q) ih = rw q (above n c e)
    go false e h (inr i) ih = ih h b i

pub has_no_reason : (I : Instance) (C : ℕ) (earlier : List Line) (line : Line) → IsLegal I C earlier line →
    first_reason I C earlier line ≡ None
has_no_reason I C earlier line h =
    both_none (claim_reason I (claim_of line)) (rule_reason I C earlier line)
    (both_none _ _ (none_when (is_empty (claim_of line)) reason.EmptyClaim (is_not_empty (claim_of line) h.not_empty))
    (both_none _ _ (ap (option_map reason.BufferRange) (none_beyond (length I) (buffers_of (claim_of line))
    (in_buffers_range (claim_of line) h.claim.in_range))) refl))
    (rule_none I C earlier line h.reason)
  where
    in_buffers_range : (l : Claim) → ((e : Entry) → IsIn e l → e.0 < length I) → (b : ℕ) → IsIn b (buffers_of l) →
        b < length I
    in_buffers_range l k b i = let q = from_map (λ (e : Entry). e.0) l b i in rw q.2 (k q.0 q.1)

-- ---- logs
pub get_before : {X : Type 0} (xs ys : List X) (k : ℕ) → k < length xs → slice_get (xs ++ ys) k ≡ slice_get xs k
get_before [] ys k lt = absurd (omega arith)
get_before (x ∷ xs) ys zero lt = refl
get_before (x ∷ xs) ys (suc k) lt = get_before xs ys k (omega arith)

pub get_last : {X : Type 0} (xs : List X) (x y : X) (k : ℕ) → length xs ≤ k → slice_get (xs ++ x ∷ []) k ≡ Some y →
    (k ≡ length xs) × (x ≡ y)
get_last [] x y zero le h = (refl, cc)
get_last [] x y (suc k) le h = absurd cc
get_last (z ∷ zs) x y zero le h = absurd (omega arith)
get_last (z ∷ zs) x y (suc k) le h = let q = get_last zs x y k (omega arith) h in (ap suc q.0, q.1)

take_before : {X : Type 0} (xs ys : List X) (k : ℕ) → k ≤ length xs → take k (xs ++ ys) ≡ take k xs
take_before xs ys k le = take-append-le k xs ys le

pub take_length : {X : Type 0} (xs : List X) → take (length xs) xs ≡ xs
take_length [] = refl
take_length (x ∷ xs) = ap (λ xs. x ∷ xs) (take_length xs)

pub belongs_next : (I : Instance) (log : OpenLog) (line : Line) → Belongs I log →
    IsLegal I log.capacity log.lines line → Belongs I (record log { lines = log.lines ++ line ∷ [] })
belongs_next I log line b legal = record {
  same_count = b.same_count;
  legal = λ k x h. elim (below_or_from k (length log.lines)) [
    | inl lt ↦ rw (take_before log.lines (line ∷ []) k (omega arith))
        (b.legal k x (sym (get_before log.lines (line ∷ []) k lt) ∙ h))
    | inr le ↦
        let q = get_last log.lines line x k le h in
        rw (q.0, take_before log.lines (line ∷ []) (length log.lines) (omega arith), take_length log.lines, ← q.1) legal
  ];
}

pub pushed_view : {X : Type 0} (f : X → Line) (view : OpenLog) (items new : List X) (x : X) → map f items ≡ view.lines →
    new ≡ items ++ x ∷ [] → map f new ≡ view.lines ++ f x ∷ []
pushed_view f view items new x e q = rw (q, map-append f items (x ∷ []), e) refl

pub all_kept_pushed : {X : Type 0} (f : X → Line) (items new : List X) (x : X) → new ≡ items ++ x ∷ [] →
    All IsLineKept (map f items) → IsLineKept (f x) → All IsLineKept (map f new)
all_kept_pushed f items new x q h k = rw (q, map-append f items (x ∷ [])) (All-push IsLineKept (map f items) (f x) h k)

-- a legal line keeps what lines keep
pub legal_is_kept : (I : Instance) (C : ℕ) (earlier : List Line) (line : Line) → length I ≤ buffer_limit →
    IsWithin line →
    IsLegal I C earlier line → IsLineKept line
legal_is_kept I C earlier line n w h = record {
  within = w;
  buffers = λ e i. let k : e.0 < length I = h.claim.in_range e i in omega arith;
  rises = h.claim.rises;
  not_empty = h.not_empty;
  cites = has_cites line h.reason;
}
  where
    has_cites : (line : Line) → IsLegalReason I C earlier line → HasCites line
    has_cites (Over l T H G) h = tt
    has_cites (Cases l cites) h = sym (cites_none I earlier l l cites h).0

-- a log that belongs is accepted with the end of a whole line
pub is_accepted : (I : Instance) (log : OpenLog) (end : ℕ) (line : Line) (closed : Log) → closed ≡ ended log end →
    Belongs I log →
    slice_get log.lines end ≡ Some line → IsWhole I (claim_of line) → IsAccepted I closed
is_accepted I log end line closed e b at w =
    rw e (record { same_count = b.same_count; legal = b.legal; whole = (line, at, w) })
