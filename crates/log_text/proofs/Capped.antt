-- Numbers of 64 bits in place of those of the text: within the limits both are the same.
use Rattle.std.proofs.Common.{◌≡◌, ◌^◌, ◌-◌, ℕ, ◌<◌, ◌≤◌, List, [], ◌∷◌, All, map, refl, ap, ◌∙◌, arith}
use Rattle.std.proofs.lemmas.List.Elements.{All-cons, All-head, All-nil, All-tail}
use Rattle.dsa_terms.specs.Claims.{Claim, Entry}
use Rattle.log_text.specs.Changes.{Change, Drops, Puts}
use Rattle.log_text.specs.Edits.{capped_change}
use Rattle.log_text.specs.RawLogs.{IsRawCiteWithin, IsPairWithin}
use Rattle.log_text.specs.Reading.{capped, capped_cite, capped_pair}
use Rattle.log_text.specs.Rows.{capped_row, capped_spelling}
use Rattle.log_text.specs.Says.{EndRow, IsChangeWithin, IsSpellingWithin, IsWithin, LineRow, Row}
use Rattle.log_text.specs.Spellings.{CasesAs, From, Full, OverAs, Spelling}
use Rattle.log_text.specs.declared.raw.RawCite.{RawCite}
use Rattle.log_text.specs.declared.raw.RawCite.TheVariants as raw_cite

cap_small : (n : ℕ) → n < 2 ^ 64 → capped n ≡ n
cap_small n h = omega arith

below_cap : (n k : ℕ) → k < 2 ^ 64 - 1 → capped n ≤ k → n ≤ k
below_cap n k h l = omega arith

pairs_back : (l : Claim) → All IsPairWithin (map capped_pair l) → All IsPairWithin l
pairs_back [] a = All-nil IsPairWithin
pairs_back (e ∷ es) a =
    let h = All-head IsPairWithin (capped_pair e) (map capped_pair es) a in
    All-cons IsPairWithin e es (below_cap e.0 (2 ^ 60) (omega arith) h.0, below_cap e.1 (2 ^ 60) (omega arith) h.1)
    (pairs_back es (All-tail IsPairWithin (capped_pair e) (map capped_pair es) a))

same_pair : {X : Type 0} (a b : ℕ) (c d : X) → a ≡ b → c ≡ d → ◌≡◌ {A = ℕ × X} (a, c) (b, d)
same_pair {X} a b c d h k = ap (λ (x : ℕ). let e : ℕ × X = (x, c) in e) h
    ∙ ap (λ (y : X). let e : ℕ × X = (b, y) in e) k

pairs_same : (l : Claim) → All IsPairWithin l → map capped_pair l ≡ l
pairs_same [] a = refl
pairs_same (e ∷ es) a =
    let h = All-head IsPairWithin e es a in
    longer (same_pair (capped e.0) e.0 (capped e.1) e.1 (cap_small e.0 (omega arith)) (cap_small e.1 (omega arith)))
    (pairs_same es (All-tail IsPairWithin e es a))
  where
    longer : {x y : Entry} {xs ys : Claim} → x ≡ y → xs ≡ ys → x ∷ xs ≡ y ∷ ys
    longer p q = cc

cite_back : (x : ℕ × RawCite) → IsRawCiteWithin (capped_cite x) → IsRawCiteWithin x
cite_back x h = go x.0 x.1 h
  where
    go : (b : ℕ) (x : RawCite) → IsRawCiteWithin (capped_cite (b, x)) → IsRawCiteWithin (b, x)
    go b (raw_cite.Line k) h = (below_cap b (2 ^ 60) (omega arith) h.0, below_cap k (2 ^ 60) (omega arith) h.1)
    go b (raw_cite.Below k) h = (below_cap b (2 ^ 60) (omega arith) h.0, below_cap k (2 ^ 60) (omega arith) h.1)
    go b (raw_cite.Twin k) h = (below_cap b (2 ^ 60) (omega arith) h.0, below_cap k (2 ^ 60) (omega arith) h.1)

cite_same : (x : ℕ × RawCite) → IsRawCiteWithin x → capped_cite x ≡ x
cite_same x h = go x.0 x.1 h
  where
    go : (b : ℕ) (x : RawCite) → IsRawCiteWithin (b, x) → capped_cite (b, x) ≡ (b, x)
    go b (raw_cite.Line k) h = same_pair (capped b) b _ _ (cap_small b (omega arith))
        (ap raw_cite.Line (cap_small k (omega arith)))
    go b (raw_cite.Below k) h = same_pair (capped b) b _ _ (cap_small b (omega arith))
        (ap raw_cite.Below (cap_small k (omega arith)))
    go b (raw_cite.Twin k) h = same_pair (capped b) b _ _ (cap_small b (omega arith))
        (ap raw_cite.Twin (cap_small k (omega arith)))

cites_back : (l : List (ℕ × RawCite)) → All IsRawCiteWithin (map capped_cite l) → All IsRawCiteWithin l
cites_back [] a = All-nil IsRawCiteWithin
cites_back (e ∷ es) a =
    All-cons IsRawCiteWithin e es (cite_back e (All-head IsRawCiteWithin (capped_cite e) (map capped_cite es) a))
    (cites_back es (All-tail IsRawCiteWithin (capped_cite e) (map capped_cite es) a))

cites_same : (l : List (ℕ × RawCite)) → All IsRawCiteWithin l → map capped_cite l ≡ l
cites_same [] a = refl
cites_same (e ∷ es) a = longer (cite_same e (All-head IsRawCiteWithin e es a))
    (cites_same es (All-tail IsRawCiteWithin e es a))
  where
    longer : {x y : ℕ × RawCite} {xs ys : List (ℕ × RawCite)} → x ≡ y → xs ≡ ys → x ∷ xs ≡ y ∷ ys
    longer p q = cc

-- ---- changes
change_back : (c : Change) → IsChangeWithin (capped_change c) → IsChangeWithin c
change_back (Puts e) h = (below_cap e.0 (2 ^ 60) (omega arith) h.0, below_cap e.1 (2 ^ 60) (omega arith) h.1)
change_back (Drops b) h = below_cap b (2 ^ 60) (omega arith) h

change_same : (c : Change) → IsChangeWithin c → capped_change c ≡ c
change_same (Puts e) h = ap Puts
    (same_pair (capped e.0) e.0 (capped e.1) e.1 (cap_small e.0 (omega arith)) (cap_small e.1 (omega arith)))
change_same (Drops b) h = ap Drops (cap_small b (omega arith))

changes_back : (cs : List Change) → All IsChangeWithin (map capped_change cs) → All IsChangeWithin cs
changes_back [] a = All-nil IsChangeWithin
changes_back (c ∷ cs) a =
    All-cons IsChangeWithin c cs (change_back c (All-head IsChangeWithin (capped_change c) (map capped_change cs) a))
    (changes_back cs (All-tail IsChangeWithin (capped_change c) (map capped_change cs) a))

changes_same : (cs : List Change) → All IsChangeWithin cs → map capped_change cs ≡ cs
changes_same [] a = refl
changes_same (c ∷ cs) a = longer (change_same c (All-head IsChangeWithin c cs a))
    (changes_same cs (All-tail IsChangeWithin c cs a))
  where
    longer : {x y : Change} {xs ys : List Change} → x ≡ y → xs ≡ ys → x ∷ xs ≡ y ∷ ys
    longer p q = cc

-- ---- rows
spelling_back : (s : Spelling) → IsSpellingWithin (capped_spelling s) → IsSpellingWithin s
spelling_back (Full l) h = pairs_back l h
spelling_back (From base changes) h = (below_cap base (2 ^ 60) (omega arith) h.0, changes_back changes h.1)

spelling_same : (s : Spelling) → IsSpellingWithin s → capped_spelling s ≡ s
spelling_same (Full l) h = ap Full (pairs_same l h)
spelling_same (From base changes) h = same (cap_small base (omega arith)) (changes_same changes h.1)
  where
    same : {a b : ℕ} {x y : List Change} → a ≡ b → x ≡ y → From a x ≡ From b y
    same p q = cc

pub within_back : (row : Row) → IsWithin (capped_row row) → IsWithin row
within_back (LineRow (OverAs T H G s)) h = (
  omega arith,
  below_cap H (2 ^ 60) (omega arith) h.1,
  below_cap G (2 ^ 60) (omega arith) h.2,
  spelling_back s h.3,
)
within_back (LineRow (CasesAs s cites)) h = (spelling_back s h.0, cites_back cites h.1)
within_back (EndRow k) h = below_cap k (2 ^ 60) (omega arith) h

pub within_same : (row : Row) → IsWithin row → capped_row row ≡ row
within_same (LineRow (OverAs T H G s)) h = same (cap_small T (omega arith)) (cap_small H (omega arith))
    (cap_small G (omega arith)) (spelling_same s h.3)
  where
    same : {T U H J G K : ℕ} {x y : Spelling} → T ≡ U → H ≡ J → G ≡ K → x ≡ y →
        LineRow (OverAs T H G x) ≡ LineRow (OverAs U J K y)
    same p q u v = cc
within_same (LineRow (CasesAs s cites)) h = same (spelling_same s h.0) (cites_same cites h.1)
  where
    same : {x y : Spelling} {c d : List (ℕ × RawCite)} → x ≡ y → c ≡ d → LineRow (CasesAs x c) ≡ LineRow (CasesAs y d)
    same p q = cc
within_same (EndRow k) h = ap EndRow (cap_small k (omega arith))
