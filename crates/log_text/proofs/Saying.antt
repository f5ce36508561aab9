-- What is said by lines in full and by differences: what is kept of it, and the texts that are written.
use Rattle.std.proofs.Common.{◌≡◌, ◌≢◌, ℕ, zero, suc, ◌^◌, ◌+◌, ◌<◌, ◌≤◌, ◌⊎◌, inl, inr, Bool, true, false, cond, nat_lt, List, [], ◌∷◌, ◌++◌, length, map, All, refl, sym, ap, ◌∙◌, subst, arith, append_assoc, append-nil}
use Rattle.std.proofs.lemmas.List.{length-append}
use Rattle.std.proofs.lemmas.List.Concat.{flat_map-append}
use Rattle.std.proofs.lemmas.List.Elements.{All-cons, All-head, All-nil, All-push, All-tail}
use Rattle.std.specs.List.{flat_map}
use Rattle.dsa_terms.specs.Claims.{Claim, Entry, IsIn, Rises, buffers_of}
use Rattle.log_text.specs.Changes.{AreChanges, Change, DoesChange, Drops, Puts, carried_out, difference}
use Rattle.dsa_terms.proofs.Lists.{into_map}
use Rattle.log_text.specs.Faults.{GoesOn, IsFirstFault, IsVersion}
use Rattle.log_text.specs.RawLogs.{IsPairWithin, IsRawKept, IsRawLineKept, raw_claim_of}
use Rattle.log_text.specs.RawTexts.{HasCite, IsTextOf, end_text, header_text, line_text}
use Rattle.log_text.specs.Says.{AreGood, IsChangeWithin, HasSpellingBase, HasSpellingChanges, IsGood, IsSpellingFormed, IsSpellingRising, IsSpellingWithin, LineRow, Says, SaysBy}
use Rattle.log_text.specs.Spellings.{CasesAs, From, Full, OverAs, Spelled, Spelling, claim_at, claim_said, line_said, lines_said, raw_text2, shorter, spelled_after, spelled_as, spelled_lines, spelled_text, spelling_text}
use Rattle.log_text.specs.declared.raw.RawLine.{RawLine}
use Rattle.log_text.specs.declared.raw.RawLine.TheVariants as raw_line
use Rattle.log_text.specs.declared.raw.RawLog.{RawLog}
use Rattle.log_text.specs.declared.fault.TextFault.{TextFault}
use Rattle.log_text.proofs.FirstFaults.{says_no_fault, says_one}
use Rattle.log_text.proofs.Splits.{lines_split}
use Rattle.log_text.proofs.Differences.{carried_difference, in_carried, in_difference, rises_carried, rises_difference}

-- ---- lists by their items
pub all_in : {X : Type 0} (P : X → Type 0) (xs : List X) → ((x : X) → IsIn x xs → P x) → All P xs
all_in P [] h = All-nil P
all_in P (x ∷ xs) h = All-cons P x xs (h x (inl refl)) (all_in P xs (λ y i. h y (inr i)))

pub in_all : {X : Type 0} (P : X → Type 0) (xs : List X) → All P xs → (x : X) → IsIn x xs → P x
in_all P [] a x i = absurd i
in_all P (y ∷ ys) a x (inl e) = subst P (sym e) (All-head P y ys a)
in_all P (y ∷ ys) a x (inr i) = in_all P ys (All-tail P y ys a) x i

-- ---- a line with its claim spelled in any way
-- what is kept of a claim
pub record IsClaimKept (l : Claim) : Type 0 where
  pub not_empty : l ≢ []
  pub rising : Rises (buffers_of l)
  pub within : All IsPairWithin l

claim_kept : (line : RawLine) → IsRawLineKept line → IsClaimKept (raw_claim_of line)
claim_kept (raw_line.Over T H G l) k = record { not_empty = k.not_empty; rising = k.rising; within = k.within.3 }
claim_kept (raw_line.Cases l cites) k = record { not_empty = k.not_empty; rising = k.rising.0; within = k.within.0 }

-- a spelling that is good after these lines
record IsSpellingGood (v : ℕ) (earlier : List RawLine) (s : Spelling) : Type 0 where
  pub formed : IsSpellingFormed v s
  pub within : IsSpellingWithin s
  pub rising : IsSpellingRising s
  pub base : HasSpellingBase earlier s
  pub changes : HasSpellingChanges earlier s

good_as : (v : ℕ) (earlier : List RawLine) (line : RawLine) (s : Spelling) → IsRawLineKept line → HasCite line →
    IsSpellingGood v earlier s → IsGood v earlier (LineRow (spelled_as line s))
good_as v earlier (raw_line.Over T H G l) s k c g = record {
  formed = (g.formed, tt);
  within = (k.within.0, k.within.1, k.within.2, g.within);
  rising = g.rising;
  base = g.base;
  changes = g.changes;
}
good_as v earlier (raw_line.Cases l cites) s k c g = record {
  formed = (g.formed, c);
  within = (g.within, k.within.1);
  rising = (g.rising, k.rising.1);
  base = g.base;
  changes = g.changes;
}

said_as : (earlier : List RawLine) (line : RawLine) (s : Spelling) → claim_said earlier s ≡ raw_claim_of line →
    line_said earlier (spelled_as line s) ≡ line
said_as earlier (raw_line.Over T H G l) s e = ap (λ (k : Claim). raw_line.Over T H G k) e
said_as earlier (raw_line.Cases l cites) s e = ap (λ (k : Claim). raw_line.Cases k cites) e

full_good : (v : ℕ) (earlier : List RawLine) (l : Claim) → IsClaimKept l → IsSpellingGood v earlier (Full l)
full_good v earlier l k = record { formed = k.not_empty; within = k.within; rising = k.rising; base = tt; changes = tt }

-- ---- lines in full
in_full : RawLine → Spelled
in_full line = spelled_as line (Full (raw_claim_of line))

full_text : (line : RawLine) → spelled_text (in_full line) ≡ line_text line
unfolding in_full
full_text (raw_line.Over T H G l) = refl
full_text (raw_line.Cases l cites) = refl

full_texts : (lines : List RawLine) → flat_map spelled_text (map in_full lines) ≡ flat_map line_text lines
full_texts [] = refl
full_texts (line ∷ lines) = both (full_text line) (full_texts lines)
  where
    both : {a b c d : List ℕ} → a ≡ b → c ≡ d → a ++ c ≡ b ++ d
    both p q = rw (p, q) refl

one_more : (earlier : List RawLine) (line : RawLine) (lines : List RawLine) →
    (earlier ++ line ∷ []) ++ lines ≡ earlier ++ (line ∷ lines)
one_more earlier line lines = append_assoc earlier (line ∷ []) lines

full_said : (earlier lines : List RawLine) → lines_said earlier (map in_full lines) ≡ earlier ++ lines
unfolding in_full
full_said earlier [] = sym (append-nil earlier)
full_said earlier (line ∷ lines) =
    ap (λ (x : RawLine). lines_said (earlier ++ x ∷ []) (map in_full lines))
    (said_as earlier line (Full (raw_claim_of line)) refl)
    ∙ (full_said (earlier ++ line ∷ []) lines ∙ one_more earlier line lines)

full_are_good : (v : ℕ) (earlier lines : List RawLine) → All IsRawLineKept lines → All HasCite lines →
    AreGood v earlier (map in_full lines)
unfolding in_full
full_are_good v earlier [] a b = tt
full_are_good v earlier (line ∷ lines) a b = (
  good_as v earlier line (Full (raw_claim_of line)) k (All-head HasCite line lines b)
      (full_good v earlier (raw_claim_of line) (claim_kept line k)),
  full_are_good v (earlier ++ line_said earlier (in_full line) ∷ []) lines (All-tail IsRawLineKept line lines a)
      (All-tail HasCite line lines b),
)
  where
    k : IsRawLineKept line
    k = All-head IsRawLineKept line lines a

-- lines and an end are told from what follows them, whatever their numbers
pub full_lines_split : (xs ys : List RawLine) (u v : List ℕ) →
    flat_map line_text xs ++ (101 ∷ u) ≡ flat_map line_text ys ++ (101 ∷ v) → (xs ≡ ys) × (u ≡ v)
unfolding in_full
full_lines_split xs ys u v e =
    let t = lines_split (map in_full xs) (map in_full ys) u v (ap (λ (b : List ℕ). b ++ (101 ∷ u)) (full_texts xs)
    ∙ (e ∙ ap (λ (b : List ℕ). b ++ (101 ∷ v)) (sym (full_texts ys)))) in
    (sym (back xs) ∙ (ap (λ (ss : List Spelled). map (line_said []) ss) t.0 ∙ back ys), t.1)
  where
    back : (zs : List RawLine) → map (line_said []) (map in_full zs) ≡ zs
    back [] = refl
    back (z ∷ zs) = longer (said_as [] z (Full (raw_claim_of z)) refl) (back zs)
      where
        longer : {x y : RawLine} {xs ys : List RawLine} → x ≡ y → xs ≡ ys → x ∷ xs ≡ y ∷ ys
        longer h k = cc

-- the one text of version 1 says its log by version 1
pub text_says : (bytes : List ℕ) (raw : RawLog) → IsTextOf bytes raw → SaysBy 1 bytes raw
text_says bytes raw t = record {
  spelled = map in_full raw.lines;
  count_limit = t.kept.count_limit;
  capacity_limit = t.kept.capacity_limit;
  end_limit = t.kept.end_limit;
  good = full_are_good 1 [] raw.lines t.kept.lines t.cited;
  lines = sym (full_said [] raw.lines);
  text = t.text ∙ ap (λ u. header_text 1 raw.count raw.capacity ++ u ++ end_text raw.end) (sym (full_texts raw.lines));
}

-- ---- what is said is kept
pub claim_at_kept : (earlier : List RawLine) (k : ℕ) → k < length earlier → All IsRawLineKept earlier →
    IsClaimKept (claim_at earlier k)
claim_at_kept [] k lt a = absurd (omega arith)
claim_at_kept (line ∷ lines) zero lt a = claim_kept line (All-head IsRawLineKept line lines a)
claim_at_kept (line ∷ lines) (suc k) lt a = claim_at_kept lines k (omega arith) (All-tail IsRawLineKept line lines a)

spelling_kept : (v : ℕ) (earlier : List RawLine) (s : Spelling) → All IsRawLineKept earlier →
    IsSpellingGood v earlier s → IsClaimKept (claim_said earlier s)
spelling_kept v earlier (Full l) a g = record { not_empty = g.formed; rising = g.rising; within = g.within }
spelling_kept v earlier (From base changes) a g = let k = claim_at_kept earlier base g.base a in record {
  not_empty = g.changes.some;
  rising = rises_carried (claim_at earlier base) changes k.rising g.rising;
  within = all_in IsPairWithin (carried_out (claim_at earlier base) changes) (λ e i. either e
      (in_carried (claim_at earlier base) changes e i) k.within g.within.1);
}
  where
    either : (e : Entry) → IsIn e (claim_at earlier base) ⊎ IsIn (Puts e) changes →
        All IsPairWithin (claim_at earlier base) → All IsChangeWithin changes → IsPairWithin e
    either e (inl i) b c = in_all IsPairWithin (claim_at earlier base) b e i
    either e (inr i) b c = in_all IsChangeWithin changes c (Puts e) i

pub line_kept : (v : ℕ) (earlier : List RawLine) (s : Spelled) → All IsRawLineKept earlier →
    IsGood v earlier (LineRow s) →
    IsRawLineKept (line_said earlier s) × HasCite (line_said earlier s)
line_kept v earlier (OverAs T H G s) a g = let k = spelling_kept v earlier s a (record {
  formed = g.formed.0;
  within = g.within.3;
  rising = g.rising;
  base = g.base;
  changes = g.changes;
}) in (
  record { not_empty = k.not_empty; rising = k.rising; within = (g.within.0, g.within.1, g.within.2, k.within) },
  tt,
)
line_kept v earlier (CasesAs s cites) a g = let k = spelling_kept v earlier s a (record {
  formed = g.formed.0;
  within = g.within.0;
  rising = g.rising.0;
  base = g.base;
  changes = g.changes;
}) in (
  record { not_empty = k.not_empty; rising = (k.rising, g.rising.1); within = (k.within, g.within.1) },
  g.formed.1,
)

pub lines_kept : (v : ℕ) (earlier : List RawLine) (ss : List Spelled) → All IsRawLineKept earlier →
    All HasCite earlier → AreGood v earlier ss →
    All IsRawLineKept (lines_said earlier ss) × All HasCite (lines_said earlier ss)
lines_kept v earlier [] a b g = (a, b)
lines_kept v earlier (s ∷ ss) a b g =
    let k = line_kept v earlier s a g.0 in
    lines_kept v (earlier ++ line_said earlier s ∷ []) ss
    (All-push IsRawLineKept earlier (line_said earlier s) a k.0)
    (All-push HasCite earlier (line_said earlier s) b k.1) g.1

pub said_kept : (v : ℕ) (bytes : List ℕ) (raw : RawLog) → SaysBy v bytes raw → IsRawKept raw
said_kept v bytes raw t = record {
  count_limit = t.count_limit;
  capacity_limit = t.capacity_limit;
  end_limit = t.end_limit;
  lines = subst (λ (ls : List RawLine). All IsRawLineKept ls) (sym t.lines)
      (lines_kept v [] t.spelled (All-nil IsRawLineKept) (All-nil HasCite) t.good).0;
}

pub says_kept : (bytes : List ℕ) (raw : RawLog) → Says bytes raw → IsRawKept raw
says_kept bytes raw (inl t) = t.kept
says_kept bytes raw (inr t) = said_kept 2 bytes raw t

-- ---- a text of version 1 that says a log is its one text
-- a line that version 1 has is in full
is_full : (earlier : List RawLine) (s : Spelled) → IsGood 1 earlier (LineRow s) → s ≡ in_full (line_said earlier s)
unfolding in_full
is_full earlier (OverAs T H G (Full l)) g = refl
is_full earlier (OverAs T H G (From base changes)) g = absurd (let e : 1 ≡ 2 = g.formed.0 in omega arith)
is_full earlier (CasesAs (Full l) cites) g = refl
is_full earlier (CasesAs (From base changes) cites) g = absurd (let e : 1 ≡ 2 = g.formed.0 in omega arith)

are_full : (earlier : List RawLine) (ss : List Spelled) → AreGood 1 earlier ss →
    (lines : List RawLine) × (ss ≡ map in_full lines) × (lines_said earlier ss ≡ earlier ++ lines)
are_full earlier [] g = ([], refl, sym (append-nil earlier))
are_full earlier (s ∷ ss) g =
    let t = are_full (earlier ++ line_said earlier s ∷ []) ss g.1 in (
      line_said earlier s ∷ t.0,
      longer (is_full earlier s g.0) t.1,
      t.2 ∙ one_more earlier (line_said earlier s) t.0,
    )
  where
    longer : {x y : Spelled} {xs ys : List Spelled} → x ≡ y → xs ≡ ys → x ∷ xs ≡ y ∷ ys
    longer h k = cc

pub says_text : (bytes : List ℕ) (raw : RawLog) → SaysBy 1 bytes raw → IsTextOf bytes raw
says_text bytes raw t =
    let f = are_full [] t.spelled t.good in record {
      kept = said_kept 1 bytes raw t;
      cited = subst (λ (ls : List RawLine). All HasCite ls) (sym t.lines)
          (lines_kept 1 [] t.spelled (All-nil IsRawLineKept) (All-nil HasCite) t.good).1;
      text = t.text ∙ ap (λ u. header_text 1 raw.count raw.capacity ++ u ++ end_text raw.end)
          (ap (λ (ss : List Spelled). flat_map spelled_text ss) f.1
          ∙ (full_texts f.0 ∙ ap (λ (ls : List RawLine). flat_map line_text ls) (sym (t.lines ∙ f.2))));
    }

-- ---- the text of version 2
last_claim : (earlier : List RawLine) (line : RawLine) →
    claim_at (earlier ++ line ∷ []) (length earlier) ≡ raw_claim_of line
last_claim [] line = refl
last_claim (x ∷ xs) line = last_claim xs line

-- a difference from the line before
difference_good : (earlier : List RawLine) (before line : RawLine) → length earlier ≤ 2 ^ 60 →
    IsRawLineKept before → IsRawLineKept line →
    let s = From (length earlier) (difference (raw_claim_of before) (raw_claim_of line)) in
    IsSpellingGood 2 (earlier ++ before ∷ []) s × (claim_said (earlier ++ before ∷ []) s ≡ raw_claim_of line)
difference_good earlier before line lim a b = go (claim_kept before a) (claim_kept line b)
  where
    within_one : (c : Change) → ((e : Entry) × IsIn e (raw_claim_of before) × (c ≡ Drops e.0))
        ⊎ ((e : Entry) × IsIn e (raw_claim_of line) × (IsIn e (raw_claim_of before) → ⊥) × (c ≡ Puts e)) →
        All IsPairWithin (raw_claim_of before) → All IsPairWithin (raw_claim_of line) → IsChangeWithin c
    within_one c (inl (e, i, q)) p r = subst IsChangeWithin (sym q) (in_all IsPairWithin (raw_claim_of before) p e i).0
    within_one c (inr (e, i, n, q)) p r = subst IsChangeWithin (sym q) (in_all IsPairWithin (raw_claim_of line) r e i)

    changes_one : (c : Change) → ((e : Entry) × IsIn e (raw_claim_of before) × (c ≡ Drops e.0))
        ⊎ ((e : Entry) × IsIn e (raw_claim_of line) × (IsIn e (raw_claim_of before) → ⊥) × (c ≡ Puts e)) →
        DoesChange (raw_claim_of before) c
    changes_one c (inl (e, i, q)) = subst (λ (d : Change). DoesChange (raw_claim_of before) d) (sym q)
        (into_map (λ (f : Entry). f.0) (raw_claim_of before) e i)
    changes_one c (inr (e, i, n, q)) = subst (λ (d : Change). DoesChange (raw_claim_of before) d) (sym q) n

    go : IsClaimKept (raw_claim_of before) → IsClaimKept (raw_claim_of line) →
        IsSpellingGood 2 (earlier ++ before ∷ [])
        (From (length earlier) (difference (raw_claim_of before) (raw_claim_of line)))
        × (claim_said (earlier ++ before ∷ [])
        (From (length earlier) (difference (raw_claim_of before) (raw_claim_of line))) ≡ raw_claim_of line)
    go p r =
        let w = carried_difference (raw_claim_of before) (raw_claim_of line) p.rising r.rising in
        let at = last_claim earlier before in (
          record {
            formed = refl;
            within = (
              lim,
              all_in IsChangeWithin (difference (raw_claim_of before) (raw_claim_of line))
                  (λ c i. within_one c (in_difference (raw_claim_of before) (raw_claim_of line) c r.rising i) p.within
                  r.within),
            );
            rising = rises_difference (raw_claim_of before) (raw_claim_of line) p.rising r.rising;
            base = let k = length-append earlier (before ∷ []) in omega arith;
            changes = subst (λ (l : Claim). AreChanges l (difference (raw_claim_of before) (raw_claim_of line)))
                (sym at)
                (record {
                  each = all_in (DoesChange (raw_claim_of before))
                      (difference (raw_claim_of before) (raw_claim_of line))
                      (λ c i. changes_one c (in_difference (raw_claim_of before) (raw_claim_of line) c r.rising i));
                  some = subst (λ (l : Claim). l ≢ []) (sym w) r.not_empty;
                });
          },
          ap (λ (l : Claim). carried_out l (difference (raw_claim_of before) (raw_claim_of line))) at ∙ w,
        )

shorter_good : (earlier : List RawLine) (before line : RawLine) → length earlier ≤ 2 ^ 60 →
    IsRawLineKept before → IsRawLineKept line →
    let s = shorter (length earlier) (raw_claim_of before) (raw_claim_of line) in
    IsSpellingGood 2 (earlier ++ before ∷ []) s × (claim_said (earlier ++ before ∷ []) s ≡ raw_claim_of line)
shorter_good earlier before line lim a b =
    go (From (length earlier) (difference (raw_claim_of before) (raw_claim_of line))) (Full (raw_claim_of line))
    (nat_lt (length (spelling_text (From (length earlier) (difference (raw_claim_of before) (raw_claim_of line)))))
    (length (spelling_text (Full (raw_claim_of line)))))
    (difference_good earlier before line lim a b)
    (full_good 2 (earlier ++ before ∷ []) (raw_claim_of line) (claim_kept line b), refl)
  where
    go : (s u : Spelling) (t : Bool) →
        IsSpellingGood 2 (earlier ++ before ∷ []) s × (claim_said (earlier ++ before ∷ []) s ≡ raw_claim_of line) →
        IsSpellingGood 2 (earlier ++ before ∷ []) u × (claim_said (earlier ++ before ∷ []) u ≡ raw_claim_of line) →
        IsSpellingGood 2 (earlier ++ before ∷ []) (cond t s u)
        × (claim_said (earlier ++ before ∷ []) (cond t s u) ≡ raw_claim_of line)
    go s u true x y = x
    go s u false x y = y

after_good : (earlier : List RawLine) (k : ℕ) (before : RawLine) (lines : List RawLine) → k ≡ length earlier →
    length earlier + length lines ≤ 2 ^ 60 →
    IsRawLineKept before → All IsRawLineKept lines → All HasCite lines →
    AreGood 2 (earlier ++ before ∷ []) (spelled_after k before lines)
    × (lines_said (earlier ++ before ∷ []) (spelled_after k before lines) ≡ (earlier ++ before ∷ []) ++ lines)
after_good earlier k before [] q lim a b c = (tt, sym (append-nil (earlier ++ before ∷ [])))
after_good earlier k before (line ∷ lines) q lim a b c =
    step (shorter k (raw_claim_of before) (raw_claim_of line))
    (subst (λ (n : ℕ). let s = shorter n (raw_claim_of before) (raw_claim_of line) in
    IsSpellingGood 2 (earlier ++ before ∷ []) s × (claim_said (earlier ++ before ∷ []) s ≡ raw_claim_of line)) (sym q)
    (shorter_good earlier before line (omega arith) a (All-head IsRawLineKept line lines b)))
    (after_good (earlier ++ before ∷ []) (k + 1) line lines
    (let n = length-append earlier (before ∷ []) in omega arith)
    (let n = length-append earlier (before ∷ []) in omega arith)
    (All-head IsRawLineKept line lines b) (All-tail IsRawLineKept line lines b) (All-tail HasCite line lines c))
  where
    step : (s : Spelling) →
        IsSpellingGood 2 (earlier ++ before ∷ []) s × (claim_said (earlier ++ before ∷ []) s ≡ raw_claim_of line) →
        AreGood 2 ((earlier ++ before ∷ []) ++ line ∷ []) (spelled_after (k + 1) line lines)
        × (lines_said ((earlier ++ before ∷ []) ++ line ∷ []) (spelled_after (k + 1) line lines)
        ≡ ((earlier ++ before ∷ []) ++ line ∷ []) ++ lines) →
        AreGood 2 (earlier ++ before ∷ []) (spelled_as line s ∷ spelled_after (k + 1) line lines)
        × (lines_said (earlier ++ before ∷ []) (spelled_as line s ∷ spelled_after (k + 1) line lines)
        ≡ (earlier ++ before ∷ []) ++ (line ∷ lines))
    step s g ih =
        let e = said_as (earlier ++ before ∷ []) line s g.1 in (
          (
            good_as 2 (earlier ++ before ∷ []) line s (All-head IsRawLineKept line lines b)
                (All-head HasCite line lines c) g.0,
            subst (λ (x : RawLine). AreGood 2 ((earlier ++ before ∷ []) ++ x ∷ []) (spelled_after (k + 1) line lines))
                (sym e) ih.0,
          ),
          ap (λ (x : RawLine). lines_said ((earlier ++ before ∷ []) ++ x ∷ []) (spelled_after (k + 1) line lines)) e
              ∙ (ih.1 ∙ one_more (earlier ++ before ∷ []) line lines),
        )

-- the text of version 2 of a log says it
pub text2_says : (raw : RawLog) → IsRawKept raw → All HasCite raw.lines → length raw.lines ≤ 2 ^ 60 →
    SaysBy 2 (raw_text2 raw) raw
text2_says raw k c lim = let t = go raw.lines k.lines c lim in record {
  spelled = spelled_lines raw.lines;
  count_limit = k.count_limit;
  capacity_limit = k.capacity_limit;
  end_limit = k.end_limit;
  good = t.0;
  lines = sym t.1;
  text = refl;
}
  where
    go : (lines : List RawLine) → All IsRawLineKept lines → All HasCite lines → length lines ≤ 2 ^ 60 →
        AreGood 2 [] (spelled_lines lines) × (lines_said [] (spelled_lines lines) ≡ lines)
    go [] k c lim = (tt, refl)
    go (line ∷ lines) k c lim =
        let a = All-head IsRawLineKept line lines k in
        let e = said_as [] line (Full (raw_claim_of line)) refl in
        let t = after_good [] 0 line lines refl (omega arith) a (All-tail IsRawLineKept line lines k)
        (All-tail HasCite line lines c) in (
          (
            good_as 2 [] line (Full (raw_claim_of line)) a (All-head HasCite line lines c)
                (full_good 2 [] (raw_claim_of line) (claim_kept line a)),
            subst (λ (x : RawLine). AreGood 2 (x ∷ []) (spelled_after 0 line lines)) (sym e) t.0,
          ),
          ap (λ (x : RawLine). lines_said (x ∷ []) (spelled_after 0 line lines)) e ∙ t.1,
        )

-- ---- laws
pub by_version : (bytes : List ℕ) (raw : RawLog) → Says bytes raw → (v : ℕ) × IsVersion v × SaysBy v bytes raw
by_version bytes raw (inl t) = (1, inl refl, text_says bytes raw t)
by_version bytes raw (inr t) = (2, inr refl, t)

pub says_prefix_free : (x y : List ℕ) (g h : RawLog) (r s : List ℕ) → Says x g → Says y h → x ++ r ≡ y ++ s →
    (g ≡ h) × (x ≡ y) × (r ≡ s)
says_prefix_free x y g h r s p q e = let a = by_version x g p in let b = by_version y h q in
    says_one a.0 b.0 x y g h r s a.2 b.2 e

pub no_fault_said : (bytes : List ℕ) (f : TextFault) (raw : RawLog) → IsFirstFault bytes f → Says bytes raw → ⊥
no_fault_said bytes f raw a p = let t = by_version bytes raw p in says_no_fault t.0 bytes f raw t.1 a t.2

-- ---- one line more, as a reader meets it
pub said_more : (earlier : List RawLine) (ss : List Spelled) (s : Spelled) →
    lines_said earlier (ss ++ s ∷ []) ≡ lines_said earlier ss ++ line_said (lines_said earlier ss) s ∷ []
said_more earlier [] s = refl
said_more earlier (x ∷ ss) s = said_more (earlier ++ line_said earlier x ∷ []) ss s

pub good_more : (v : ℕ) (earlier : List RawLine) (ss : List Spelled) (s : Spelled) → AreGood v earlier ss →
    IsGood v (lines_said earlier ss) (LineRow s) → AreGood v earlier (ss ++ s ∷ [])
good_more v earlier [] s a g = (g, tt)
good_more v earlier (x ∷ ss) s a g = (a.0, good_more v (earlier ++ line_said earlier x ∷ []) ss s a.1 g)

-- a further line was read
unfoldable pub goes_on_more : (v : ℕ) (bytes : List ℕ) (lines : List RawLine) (mid rest : List ℕ) (s : Spelled) →
    GoesOn v bytes lines mid → IsGood v lines (LineRow s) → mid ≡ spelled_text s ++ rest →
    GoesOn v bytes (lines ++ line_said lines s ∷ []) rest
goes_on_more v bytes lines mid rest s p g t = record {
  known = p.known;
  count = p.count;
  capacity = p.capacity;
  count_limit = p.count_limit;
  capacity_limit = p.capacity_limit;
  spelled = p.spelled ++ s ∷ [];
  good = good_more v [] p.spelled s p.good (subst (λ (ls : List RawLine). IsGood v ls (LineRow s)) p.said g);
  said = ap (λ (ls : List RawLine). ls ++ line_said ls s ∷ []) p.said ∙ sym (said_more [] p.spelled s);
  text = p.text ∙ ap (λ u. header_text v p.count p.capacity ++ u)
      (ap (λ u. flat_map spelled_text p.spelled ++ u) t ∙ sym (one_text p.spelled s rest));
}
  where
    one_text : (xs : List Spelled) (x : Spelled) (r : List ℕ) →
        flat_map spelled_text (xs ++ x ∷ []) ++ r ≡ flat_map spelled_text xs ++ (spelled_text x ++ r)
    one_text xs x r = ap (λ u. u ++ r) (flat_map-append spelled_text xs (x ∷ []))
        ∙ regroup (flat_map spelled_text xs) (spelled_text x) r
      where
        regroup : (a b r : List ℕ) → (a ++ (b ++ [])) ++ r ≡ a ++ (b ++ r)
        regroup a b r = ap (λ u. (a ++ u) ++ r) (append-nil b) ∙ append_assoc a b r
