-- A narrowed line has the reason of the line that it was made of, and is that line where it has none.
use Rattle.std.proofs.Common.{◌≡◌, ◌^◌, ◌⊎◌, ℕ, ◌-◌, ◌<◌, ◌≤◌, inl, inr, zero, suc, Bool, true, false, not, ◌&&◌, ◌==◌, min, List, [], ◌∷◌, map, length, Option, Some, None, find, nat_le, option_map, All, refl, sym, ap, subst, ◌∙◌, arith}
use Rattle.std.specs.Option.{option_or}
use Rattle.std.specs.List.{list_any}
use Rattle.dsa_terms.specs.Buffers.{Instance}
use Rattle.dsa_terms.specs.Claims.{Claim, Entry, IsIn, Rises, buffers_of}
use Rattle.dsa_terms.specs.Logs.{Line, Cases, Below, Twin, claim_of, ends_below, is_twin}
use Rattle.dsa_terms.specs.Firsts.{when}
use Rattle.dsa_terms.specs.Parts.{is_empty}
use Rattle.dsa_terms.proofs.Lists.{any_gives, into_map, true_or_false}
use Rattle.dsa_terms.proofs.Moments.{and_true}
use Rattle.canonical_order.specs.Claims.{IsBoundedBy}
use Rattle.dsa_terms.proofs.NumberTests.{equal}
use Rattle.dsa_model.specs.Buffer.{buffer_limit}
use Rattle.dsa_model.proofs.Faults.{neither}
use Rattle.canonical_order.proofs.CoverLemmas.{length_within}
use Rattle.refute_log.specs.Lines as lines
use Rattle.refute_log.specs.Lines.{cite_value}
use Rattle.refute_log.specs.Reasons.{claim_reason, rule_reason, cite_reason, cites_reason, first_reason}
use Rattle.refute_log.specs.declared.reason.Reason.TheVariants as reason
use Rattle.refute_log.proofs.Legal.{all_within}
use Rattle.log_text.specs.RawLogs.{IsRawLineKept, IsPairWithin, IsRawCiteWithin, IsRawLineWithin, raw_claim_of}
use Rattle.log_text.specs.declared.raw.RawLine.{RawLine}
use Rattle.log_text.specs.declared.raw.RawLine.TheVariants as raw
use Rattle.log_text.specs.declared.raw.RawCite.{RawCite}
use Rattle.log_text.specs.declared.raw.RawCite.TheVariants as raw_cite
use Rattle.log_check.specs.Faults.{cite_of, line_of, has_own_cites, raw_reason}
use Rattle.log_check.specs.Narrowing.{IsNarrowed, narrow_cite, narrow_line}
use Rattle.refute_log.proofs.Legal.{so}
use Rattle.log_check.proofs.Options.{none_of_two, third}

-- the claim's buffers are below that number
abbrev pub IsBelow : ℕ → Claim → Type 0
IsBelow n l = (e : Entry) → IsIn e l → e.0 < n

-- ---- other buffers that are cited
fits : (c : ℕ) → (min c (2 ^ 32 - 1) ≡ c) ⊎ ((buffer_limit ≤ c) × (buffer_limit ≤ min c (2 ^ 32 - 1)))
fits c = elim (order c) [
  | inl le ↦ inl (omega arith)
  | inr gt ↦ inr (omega arith, omega arith)
]
  where
    order : (c : ℕ) → (c ≤ 2 ^ 32 - 1) ⊎ (2 ^ 32 - 1 < c)
    order c = grind arith

-- no entry is of a buffer that is not below n
absent : (test : Entry → Bool) (l : Claim) (n c : ℕ) → IsBelow n l → n ≤ c →
    list_any (λ (f : Entry). (f.0 == c) && test f) l ≡ false
absent test l n c h le = elim (true_or_false (list_any (λ (f : Entry). (f.0 == c) && test f) l)) [
  | inl t ↦
      let q = any_gives (λ (f : Entry). (f.0 == c) && test f) l t in
      let r = and_true _ _ q.2 in
      let k : q.0.0 ≡ c = equal q.0.0 c r.0 in
      let m : q.0.0 < n = h q.0 q.1 in
      absurd (omega arith)
  | inr t ↦ t
]

same_test : (test : Entry → Bool) (l : Claim) (n c : ℕ) → n ≤ buffer_limit → IsBelow n l →
    list_any (λ (f : Entry). (f.0 == min c (2 ^ 32 - 1)) && test f) l ≡ list_any (λ (f : Entry). (f.0 == c) && test f) l
same_test test l n c le h = elim (fits c) [
  | inl e ↦ ap (λ d. list_any (λ (f : Entry). (f.0 == d) && test f) l) e
  | inr m ↦ absent test l n (min c (2 ^ 32 - 1)) h (let k = m.1 in omega arith)
      ∙ sym (absent test l n c h (let k = m.0 in omega arith))
]

-- a buffer of the claim is not narrowed
same_buffer : (test : Entry → Bool) (l : Claim) (n c : ℕ) → n ≤ buffer_limit → IsBelow n l →
    list_any (λ (f : Entry). (f.0 == min c (2 ^ 32 - 1)) && test f) l ≡ true → min c (2 ^ 32 - 1) ≡ c
same_buffer test l n c le h t = elim (fits c) [
  | inl e ↦ e
  | inr m ↦ let q = absent test l n (min c (2 ^ 32 - 1)) h (let k = m.1 in omega arith) in absurd cc
]

-- ---- cites
same_cite_reason : (I : Instance) (earlier : List Line) (l : Claim) (e : Entry) (cite : RawCite) →
    length I ≤ buffer_limit →
    IsBelow (length I) l →
    cite_reason I earlier l e (cite_value (narrow_cite cite)) ≡ cite_reason I earlier l e (cite_of cite)
same_cite_reason I earlier l e (raw_cite.Line k) n h = refl
same_cite_reason I earlier l e (raw_cite.Below c) n h =
    ap (λ b. when (not b) (reason.NotBelow e.0)) (same_test (λ f. ends_below I f e) l (length I) c n h)
same_cite_reason I earlier l e (raw_cite.Twin c) n h =
    ap (λ b. when (not b) (reason.NotTwin e.0)) (same_test (λ f. is_twin I f e) l (length I) c n h)

same_cites_reason : (I : Instance) (earlier : List Line) (l es : Claim) (cites : List (ℕ × RawCite)) →
    length I ≤ buffer_limit → IsBelow (length I) l →
    cites_reason I earlier l es (map cite_value (map (λ p. narrow_cite p.1) cites))
    ≡ cites_reason I earlier l es (map (λ p. cite_of p.1) cites)
same_cites_reason I earlier l [] cites n h = refl
same_cites_reason I earlier l (e ∷ es) [] n h = refl
same_cites_reason I earlier l (e ∷ es) (p ∷ ps) n h =
    rw (same_cite_reason I earlier l e p.1 n h, same_cites_reason I earlier l es ps n h) refl

length-same : {X Y Z W : Type 0} (f : X → Y) (g : Y → Z) (h : X → W) (xs : List X) →
    length (map g (map f xs)) ≡ length (map h xs)
length-same f g h [] = refl
length-same f g h (x ∷ xs) = ap suc (length-same f g h xs)

pub same_rule : (I : Instance) (C : ℕ) (earlier : List Line) (line : RawLine) → length I ≤ buffer_limit →
    IsBelow (length I) (claim_of (line_of line)) →
    rule_reason I C earlier (narrow_line line) ≡ rule_reason I C earlier (line_of line)
same_rule I C earlier (raw.Over T H G l) n h = refl
same_rule I C earlier (raw.Cases l cites) n h =
    rw (
      length-same (λ (p : ℕ × RawCite). narrow_cite p.1) cite_value (λ (p : ℕ × RawCite). cite_of p.1) cites,
      same_cites_reason I earlier l l cites n h,
    ) refl

same_cite : (I : Instance) (earlier : List Line) (l : Claim) (e : Entry) (cite : RawCite) → length I ≤ buffer_limit →
    IsBelow (length I) l → cite_reason I earlier l e (cite_value (narrow_cite cite)) ≡ None →
    cite_value (narrow_cite cite) ≡ cite_of cite
same_cite I earlier l e (raw_cite.Line k) n h q = refl
same_cite I earlier l e (raw_cite.Below c) n h q =
    ap Below (same_buffer (λ f. ends_below I f e) l (length I) c n h
    (so (list_any (λ (f : Entry). (f.0 == min c (2 ^ 32 - 1)) && ends_below I f e) l) (reason.NotBelow e.0) q))
same_cite I earlier l e (raw_cite.Twin c) n h q =
    ap Twin (same_buffer (λ f. is_twin I f e) l (length I) c n h
    (so (list_any (λ (f : Entry). (f.0 == min c (2 ^ 32 - 1)) && is_twin I f e) l) (reason.NotTwin e.0) q))

same_cites : (I : Instance) (earlier : List Line) (l es : Claim) (cites : List (ℕ × RawCite)) →
    length I ≤ buffer_limit →
    IsBelow (length I) l → length (map cite_value (map (λ p. narrow_cite p.1) cites)) ≡ length es →
    cites_reason I earlier l es (map cite_value (map (λ p. narrow_cite p.1) cites)) ≡ None →
    map cite_value (map (λ p. narrow_cite p.1) cites) ≡ map (λ p. cite_of p.1) cites
same_cites I earlier l es [] n h m q = refl
same_cites I earlier l [] (p ∷ ps) n h m q = absurd (omega arith)
same_cites I earlier l (e ∷ es) (p ∷ ps) n h m q =
    let r = neither _ _ q in
    let one = same_cite I earlier l e p.1 n h r.0 in
    let more = same_cites I earlier l es ps n h (omega arith) r.1 in
    rw (one, more) refl

-- ---- lines
pub same_line : (I : Instance) (C : ℕ) (earlier : List Line) (line : RawLine) → length I ≤ buffer_limit →
    IsBelow (length I) (claim_of (line_of line)) → rule_reason I C earlier (narrow_line line) ≡ None →
    narrow_line line ≡ line_of line
same_line I C earlier (raw.Over T H G l) n h q = refl
same_line I C earlier (raw.Cases l cites) n h q =
    let r = neither _ _ q in
    let m = equal (length (map cite_value (map (λ (p : ℕ × RawCite). narrow_cite p.1) cites))) (length l)
    (so (length (map cite_value (map (λ (p : ℕ × RawCite). narrow_cite p.1) cites)) == length l)
    reason.CitesDiffer r.0) in
    ap (Cases l) (same_cites I earlier l l cites n h m r.1)

pub below_count : (I : Instance) (l : Claim) → claim_reason I l ≡ None → IsBelow (length I) l
below_count I l h e i =
    let q = neither (when (is_empty l) reason.EmptyClaim)
    (option_or (option_map reason.BufferRange (find (λ b. nat_le (length I) b) (buffers_of l))) None) h in
    let r = neither (option_map reason.BufferRange (find (λ b. nat_le (length I) b) (buffers_of l))) None q.1 in
    all_within (length I) (buffers_of l)
    (none_mapped (find (λ b. nat_le (length I) b) (buffers_of l)) r.0) e.0 (into_map (λ (e : Entry). e.0) l e i)
  where
    none_mapped : (o : Option ℕ) → option_map reason.BufferRange o ≡ None → None ≡ o
    none_mapped None h = refl
    none_mapped (Some b) h = absurd cc

claim_of_narrow : (line : RawLine) → claim_of (narrow_line line) ≡ claim_of (line_of line)
claim_of_narrow (raw.Over T H G l) = refl
claim_of_narrow (raw.Cases l cites) = refl

-- what is wrong with a narrowed line is what is wrong with the line that it was made of
pub same_reason : (I : Instance) (C : ℕ) (earlier : List Line) (line : RawLine) (made : Line) →
    IsNarrowed I line made → first_reason I C earlier made ≡ raw_reason I C earlier line
same_reason I C earlier line made h =
    let s = none_of_two (claim_reason I (claim_of (line_of line))) _ h.shape in
    let b = below_count I (claim_of (line_of line)) s.0 in
    let e = ap (claim_reason I) (claim_of_narrow line) ∙ s.0 in
    ap (first_reason I C earlier) h.is_made
    ∙ (ap (λ o. option_or o (rule_reason I C earlier (narrow_line line))) e
    ∙ (same_rule I C earlier line h.few b
    ∙ sym (third (claim_reason I (claim_of (line_of line))) (when (not (has_own_cites line)) reason.CitesDiffer)
    (rule_reason I C earlier (line_of line)) h.shape)))

pub is_line : (I : Instance) (C : ℕ) (earlier : List Line) (line : RawLine) (made : Line) →
    IsNarrowed I line made → first_reason I C earlier made ≡ None → made ≡ line_of line
is_line I C earlier line made h q =
    let s = none_of_two (claim_reason I (claim_of (line_of line))) _ h.shape in
    let b = below_count I (claim_of (line_of line)) s.0 in
    let k = ap (first_reason I C earlier) (sym h.is_made) ∙ q in
    let r = neither (claim_reason I (claim_of (narrow_line line))) (rule_reason I C earlier (narrow_line line)) k in
    h.is_made ∙ same_line I C earlier line h.few b r.1

pub has_own : (I : Instance) (line : RawLine) (made : Line) → IsNarrowed I line made → has_own_cites line ≡ true
has_own I line made h = so (has_own_cites line) reason.CitesDiffer
    (none_of_two (claim_reason I (claim_of (line_of line))) _ h.shape).1

-- ---- limits
in_all : {X : Type 0} (P : X → Type 0) (xs : List X) (x : X) → All P xs → IsIn x xs → P x
in_all P [] x h i = absurd i
in_all P (y ∷ ys) x h (inl e) = subst P (sym e) (h 0 y (omega arith))
in_all P (y ∷ ys) x h (inr i) = in_all P ys x (λ k d lt. h (suc k) d (omega arith)) i

pub bounded : (line : RawLine) → IsRawLineWithin line → IsBoundedBy (2 ^ 60) (raw_claim_of line)
bounded (raw.Over T H G l) h e i = (in_all IsPairWithin l e h.3 i).1
bounded (raw.Cases l cites) h e i = (in_all IsPairWithin l e h.0 i).1

cite_within : (p : ℕ × RawCite) → IsRawCiteWithin p → lines.IsCiteWithin (cite_value (narrow_cite p.1))
cite_within (b, raw_cite.Line k) h = h.1
cite_within (b, raw_cite.Below c) h = omega arith
cite_within (b, raw_cite.Twin c) h = omega arith

all_mapped : {X Y : Type 0} (P : X → Type 0) (Q : Y → Type 0) (f : X → Y) (xs : List X) →
    ((x : X) → P x → Q (f x)) → All P xs → All Q (map f xs)
all_mapped P Q f [] h a k d lt = absurd (omega arith)
all_mapped P Q f (x ∷ xs) h a zero d lt = h x (a 0 x (omega arith))
all_mapped P Q f (x ∷ xs) h a (suc k) d lt =
    all_mapped P Q f xs h (λ j e m. a (suc j) e (omega arith)) k d (omega arith)

map_twice : {X Y Z : Type 0} (f : X → Y) (g : Y → Z) (xs : List X) → map (λ x. g (f x)) xs ≡ map g (map f xs)
map_twice f g [] = refl
map_twice f g (x ∷ xs) = ap (λ zs. g (f x) ∷ zs) (map_twice f g xs)

pub narrow_is_within : (line : RawLine) → IsRawLineWithin line → lines.IsWithin (narrow_line line)
narrow_is_within (raw.Over T H G l) h = (bounded (raw.Over T H G l) h, h.0, h.1, h.2)
narrow_is_within (raw.Cases l cites) h = (
  bounded (raw.Cases l cites) h,
  subst (All lines.IsCiteWithin) (map_twice (λ (p : ℕ × RawCite). narrow_cite p.1) cite_value cites)
      (all_mapped IsRawCiteWithin lines.IsCiteWithin (λ (p : ℕ × RawCite). cite_value (narrow_cite p.1)) cites
      cite_within h.1),
)

pub made_is_within : (I : Instance) (line : RawLine) (made : Line) → IsRawLineKept line → IsNarrowed I line made →
    lines.IsWithin made
made_is_within I line made k h = subst lines.IsWithin (sym h.is_made) (narrow_is_within line k.within)

-- ---- claims
pub not_narrowed : (n : ℕ) (l : Claim) → n < 2 ^ 32 → IsBelow n l →
    map (λ (e : Entry). (min e.0 (2 ^ 32 - 1), e.1)) l ≡ l
not_narrowed n [] lt h = refl
not_narrowed n (e ∷ es) lt h = rw (one e (h e (inl refl)), not_narrowed n es lt (λ f i. h f (inr i))) refl
  where
    one : (e : Entry) → e.0 < n → (min e.0 (2 ^ 32 - 1), e.1) ≡ e
    one (b, bound) k = let q : min b (2 ^ 32 - 1) ≡ b = omega arith in ap (λ b. (b, bound)) q

pub is_few : (n : ℕ) (l : Claim) → n < 2 ^ 32 → Rises (buffers_of l) → IsBelow n l → length l < 2 ^ 32
is_few n l lt r h = let k : length l ≤ n = length_within l n r h in omega arith
