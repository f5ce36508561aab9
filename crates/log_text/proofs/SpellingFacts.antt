-- Worked cases of logs whose claims are differences.
use Rattle.std.proofs.Common.{◌≡◌, ◌∙◌, ◌^◌, append-nil, ℕ, ◌<◌, ◌≤◌, inl, inr, ◌≢◌, List, [], ◌∷◌, ◌++◌, codes, refl, sym, ap, lit<, lit≤, arith, map, subst, All}
use Rattle.std.proofs.lemmas.List.Elements.{All-cons, All-head, All-nil}
use Rattle.dsa_terms.specs.Claims.{Claim, Entry, IsIn, Rises, buffers_of}
use Rattle.dsa_terms.specs.Logs.{Over, Log}
use Rattle.log_text.specs.Changes.{AreChanges, Change, DoesChange, Drops, Puts, buffer_of, carried_out, difference}
use Rattle.log_text.specs.Numerals.{numeral}
use Rattle.log_text.specs.RawTexts.{header_text}
use Rattle.log_text.specs.RawLogs.{IsPairWithin, IsRawCiteWithin, IsRawLineKept}
use Rattle.log_text.specs.Faults.{GoesOn, HasNoRow, IsFirstFault, IsVersion, Meets}
use Rattle.log_text.specs.Faults as fault
use Rattle.log_text.specs.Says.{AreGood, IsChangeWithin, IsFormed, IsGood, IsWithin, LineRow, Says, SaysBy}
use Rattle.log_text.specs.Spellings.{CasesAs, From, Full, OverAs, Spelled, lines_said, log_text2, raw_text2, spelled_log, spelled_text}
use Rattle.log_text.specs.declared.fault.TextFault.TheVariants.{BadBase, BadChange, BadLine}
use Rattle.log_text.specs.declared.raw.RawCite.TheVariants as raw_cite
use Rattle.log_text.specs.declared.raw.RawLine.{RawLine}
use Rattle.log_text.specs.declared.raw.RawLine.TheVariants as raw_line
use Rattle.log_text.specs.declared.raw.RawLog.{RawLog}
use Rattle.log_text.proofs.Splits.{row_split}

-- ---- changes
two_get_bounds_and_one_goes : carried_out ((1, 1) ∷ (2, 1) ∷ []) (Puts (0, 2) ∷ Puts (1, 2) ∷ Drops 2 ∷ []) ≡ (0, 2) ∷
    (1, 2) ∷ []
two_get_bounds_and_one_goes = refl

one_comes_between : carried_out ((1, 1) ∷ (5, 1) ∷ []) (Puts (3, 7) ∷ []) ≡ (1, 1) ∷ (3, 7) ∷ (5, 1) ∷ []
one_comes_between = refl

without_changes : carried_out ((1, 1) ∷ (5, 1) ∷ []) [] ≡ (1, 1) ∷ (5, 1) ∷ []
without_changes = refl

all_go : carried_out ((0, 0) ∷ (2, 0) ∷ []) (Drops 0 ∷ Drops 2 ∷ []) ≡ []
all_go = refl

what_differs : difference ((1, 1) ∷ (2, 1) ∷ (4, 5) ∷ []) ((0, 2) ∷ (1, 2) ∷ (4, 5) ∷ []) ≡ Puts (0, 2) ∷ Puts (1, 2) ∷
    Drops 2 ∷ []
what_differs = refl

nothing_differs : difference ((1, 1) ∷ (4, 5) ∷ []) ((1, 1) ∷ (4, 5) ∷ []) ≡ []
nothing_differs = refl

-- ---- the sample log with its fourth line as a difference
abbrev pub sample : RawLog
sample = record {
  count = 3;
  capacity = 4;
  lines = raw_line.Over 0 3 1 ((2, 3) ∷ []) ∷ raw_line.Over 0 4 1 ((1, 4) ∷ [])
      ∷ raw_line.Cases ((1, 1) ∷ (2, 1) ∷ []) ((1, raw_cite.Line 0) ∷ (2, raw_cite.Line 1) ∷ [])
      ∷ raw_line.Over 0 2 2 ((0, 2) ∷ (1, 2) ∷ [])
      ∷ raw_line.Cases ((0, 0) ∷ (1, 0) ∷ (2, 0) ∷ [])
      ((0, raw_cite.Line 2) ∷ (1, raw_cite.Twin 0) ∷ (2, raw_cite.Line 3) ∷ []) ∷ [];
  end = 4;
}

abbrev pub sample_spelled : List Spelled
sample_spelled = OverAs 0 3 1 (Full ((2, 3) ∷ [])) ∷ OverAs 0 4 1 (Full ((1, 4) ∷ []))
    ∷ CasesAs (Full ((1, 1) ∷ (2, 1) ∷ [])) ((1, raw_cite.Line 0) ∷ (2, raw_cite.Line 1) ∷ [])
    ∷ OverAs 0 2 2 (From 2 (Puts (0, 2) ∷ Puts (1, 2) ∷ Drops 2 ∷ []))
    ∷ CasesAs (Full ((0, 0) ∷ (1, 0) ∷ (2, 0) ∷ []))
    ((0, raw_cite.Line 2) ∷ (1, raw_cite.Twin 0) ∷ (2, raw_cite.Line 3) ∷ []) ∷ []

what_it_says : lines_said [] sample_spelled ≡ sample.lines
what_it_says = refl

pub its_text : spelled_log 2 3 4 sample_spelled 4 ≡
    codes "dsalog 2 3 4\n" ++ codes "over 0 3 1 : 2=3\n" ++ codes "over 0 4 1 : 1=4\n"
    ++ codes "case : 1=1 2=1 : 1>0 2>1\n"
    ++ codes "over 0 2 2 : @2 0=2 1=2 -2\n" ++ codes "case : 0=0 1=0 2=0 : 0>2 1~0 2>3\n" ++ codes "end 4\n"
unfolding numeral
its_text = refl

-- written again it has no difference, since none is shorter
written_again : raw_text2 sample ≡
    codes "dsalog 2 3 4\n" ++ codes "over 0 3 1 : 2=3\n" ++ codes "over 0 4 1 : 1=4\n"
    ++ codes "case : 1=1 2=1 : 1>0 2>1\n"
    ++ codes "over 0 2 2 : 0=2 1=2\n" ++ codes "case : 0=0 1=0 2=0 : 0>2 1~0 2>3\n" ++ codes "end 4\n"
unfolding numeral
written_again = refl

-- ---- a log that has one line twice
unfoldable pub three : Claim
three = (0, 0) ∷ (2, 0) ∷ (4, 0) ∷ []

twice : Log
twice = record { count = 5; capacity = 11; lines = Over three 0 0 1 ∷ Over three 0 0 1 ∷ []; final = 1 }

the_second_is_a_difference : log_text2 twice ≡
    codes "dsalog 2 5 11\n" ++ codes "over 0 0 1 : 0=0 2=0 4=0\n" ++ codes "over 0 0 1 : @0\n" ++ codes "end 1\n"
unfolding numeral three twice
the_second_is_a_difference = refl

-- ---- first faults of its second line
first : Spelled
first = OverAs 0 0 1 (Full three)

-- the second line, spelled so
unfoldable pub second : ℕ → List Change → Spelled
second base changes = OverAs 0 0 1 (From base changes)

three_within : All IsPairWithin three
unfolding three
three_within = All-cons IsPairWithin (0, 0) ((2, 0) ∷ (4, 0) ∷ []) (lit≤ tt, lit≤ tt)
    (All-cons IsPairWithin (2, 0) ((4, 0) ∷ []) (lit≤ tt, lit≤ tt)
    (All-cons IsPairWithin (4, 0) [] (lit≤ tt, lit≤ tt) (All-nil IsPairWithin)))

three_rise : Rises (0 ∷ 2 ∷ 4 ∷ [])
three_rise = (λ y i. above_0 y i, (λ y i. above_2 y i, (λ y i. absurd i, tt)))
  where
    above_2 : (y : ℕ) → IsIn y (4 ∷ []) → 2 < y
    above_2 y (inl e) = omega arith
    above_2 y (inr i) = absurd i

    above_0 : (y : ℕ) → IsIn y (2 ∷ 4 ∷ []) → 0 < y
    above_0 y (inl e) = omega arith
    above_0 y (inr (inl e)) = omega arith
    above_0 y (inr (inr i)) = absurd i

first_good : (version : ℕ) → IsGood version [] (LineRow first)
unfolding first three
first_good version = record {
  formed = (λ e. cc, tt);
  within = (lit< tt, lit≤ tt, lit≤ tt, three_within);
  rising = three_rise;
  base = tt;
  changes = tt;
}

three_kept : IsRawLineKept (raw_line.Over 0 0 1 three)
unfolding three
three_kept = record { not_empty = λ e. cc; rising = three_rise; within = (lit< tt, lit≤ tt, lit≤ tt, three_within) }

-- the first line stands, and then these bytes
pub begun : (version : ℕ) → IsVersion version → (text rest : List ℕ) →
    text ≡ header_text version 5 11 ++ (spelled_text (OverAs 0 0 1 (Full three)) ++ rest) →
    GoesOn version text (raw_line.Over 0 0 1 three ∷ []) rest
unfolding first
begun version known text rest e = record {
  known = known;
  count = 5;
  capacity = 11;
  count_limit = lit≤ tt;
  capacity_limit = lit≤ tt;
  spelled = first ∷ [];
  good = (first_good version, tt);
  said = refl;
  text = e ∙ ap (λ (u : List ℕ). header_text version 5 11 ++ (u ++ rest)) (sym (append-nil (spelled_text first)));
}

-- the second line as a difference
pub met : (text : List ℕ) (base : ℕ) (changes : List Change) →
    text ≡ header_text 2 5 11 ++ (spelled_text (OverAs 0 0 1 (Full three))
    ++ (spelled_text (second base changes) ++ codes "end 1\n")) →
    Meets text (raw_line.Over 0 0 1 three ∷ []) (LineRow (second base changes)) (codes "end 1\n")
unfolding second
met text base changes e = record {
  version = 2;
  rest = spelled_text (second base changes) ++ codes "end 1\n";
  goes_on = begun 2 (inr refl) text _ e;
  has_row = record { formed = (refl, tt); text = refl };
}

pub second_within : (base : ℕ) (changes : List Change) → base ≤ 2 ^ 60 → All IsChangeWithin changes →
    IsWithin (LineRow (second base changes))
unfolding second
second_within base changes b w = (lit< tt, lit≤ tt, lit≤ tt, (b, w))

-- the second line is its own base
pub its_own_base : IsFirstFault (codes "dsalog 2 5 11\nover 0 0 1 : 0=0 2=0 4=0\nover 0 0 1 : @1\nend 1\n") (BadBase 1)
unfolding numeral second three
its_own_base = fault.no_base (raw_line.Over 0 0 1 three ∷ []) (LineRow (second 1 [])) (codes "end 1\n")
    (met _ 1 [] refl) (second_within 1 [] (lit≤ tt) (All-nil IsChangeWithin)) tt (λ k. past k)
  where
    past : 1 < 1 → ⊥
    past k = omega arith

-- a second line whose changes are not right after the first
bad_change : (changes : List Change) (text : List ℕ) →
    text ≡ header_text 2 5 11 ++ (spelled_text (OverAs 0 0 1 (Full three))
    ++ (spelled_text (second 0 changes) ++ codes "end 1\n")) →
    All IsChangeWithin changes → Rises (map buffer_of changes) → (AreChanges three changes → ⊥) →
    IsFirstFault text (BadChange 1)
unfolding second
bad_change changes text e w r n = fault.no_change (raw_line.Over 0 0 1 three ∷ []) (LineRow (second 0 changes))
    (codes "end 1\n") (met text 0 changes e) (second_within 0 changes (lit≤ tt) w) r (lit< tt) n

the_bound_that_it_has : IsFirstFault (codes "dsalog 2 5 11\nover 0 0 1 : 0=0 2=0 4=0\nover 0 0 1 : @0 0=0\nend 1\n")
    (BadChange 1)
unfolding numeral three second
the_bound_that_it_has = bad_change (Puts (0, 0) ∷ []) _ refl
    (All-cons IsChangeWithin (Puts (0, 0)) [] (lit≤ tt, lit≤ tt) (All-nil IsChangeWithin)) ((λ y i. absurd i), tt)
    (λ c. All-head (DoesChange ((0, 0) ∷ (2, 0) ∷ (4, 0) ∷ [])) (Puts (0, 0)) [] c.each (inl refl))

a_buffer_that_is_not_there : IsFirstFault (codes "dsalog 2 5 11\nover 0 0 1 : 0=0 2=0 4=0\nover 0 0 1 : @0 -1\nend 1\n")
    (BadChange 1)
unfolding numeral three second
a_buffer_that_is_not_there = bad_change (Drops 1 ∷ []) _ refl
    (All-cons IsChangeWithin (Drops 1) [] (lit≤ tt) (All-nil IsChangeWithin)) ((λ y i. absurd i), tt)
    (λ c. not_there (All-head (DoesChange ((0, 0) ∷ (2, 0) ∷ (4, 0) ∷ [])) (Drops 1) [] c.each))
  where
    not_there : IsIn {X = ℕ} 1 (0 ∷ 2 ∷ 4 ∷ []) → ⊥
    not_there (inl e) = omega arith
    not_there (inr (inl e)) = omega arith
    not_there (inr (inr (inl e))) = omega arith
    not_there (inr (inr (inr i))) = absurd i

no_buffer_is_left : IsFirstFault (codes "dsalog 2 5 11\nover 0 0 1 : 0=0 2=0 4=0\nover 0 0 1 : @0 -0 -2 -4\nend 1\n")
    (BadChange 1)
unfolding numeral three second
no_buffer_is_left = bad_change (Drops 0 ∷ Drops 2 ∷ Drops 4 ∷ []) _ refl
    (All-cons IsChangeWithin (Drops 0) (Drops 2 ∷ Drops 4 ∷ []) (lit≤ tt)
    (All-cons IsChangeWithin (Drops 2) (Drops 4 ∷ []) (lit≤ tt)
    (All-cons IsChangeWithin (Drops 4) [] (lit≤ tt) (All-nil IsChangeWithin)))) three_rise
    (λ c. c.some refl)

-- a difference in version 1 has the form of no line
only_in_version_2 : IsFirstFault (codes "dsalog 1 5 11\nover 0 0 1 : 0=0 2=0 4=0\nover 0 0 1 : @0\nend 1\n") (BadLine 1)
unfolding numeral three
only_in_version_2 = fault.no_row 1 (raw_line.Over 0 0 1 three ∷ []) (codes "over 0 0 1 : @0\nend 1\n")
    (begun 1 (inl refl) _ _ refl) (λ e. cc) no_row
  where
    apart : (a b : ℕ) → a < b → a ≡ b → ⊥
    apart a b h q = omega arith

    no_row : HasNoRow 1 (codes "over 0 0 1 : @0\nend 1\n")
    no_row row more p e =
        let t = row_split row (LineRow (OverAs 0 0 1 (From 0 []))) more (codes "end 1\n") (sym e) in
        let f : IsFormed 1 (LineRow (OverAs 0 0 1 (From 0 []))) = subst (IsFormed 1) t.0 p in
        apart 1 2 (lit< tt) f.0

-- ---- the sample says its log
pair_within : (b x : ℕ) → b ≤ 4 → x ≤ 4 → IsPairWithin (b, x)
pair_within b x h k = (omega arith, omega arith)

one_pair : (b x : ℕ) → b ≤ 4 → x ≤ 4 → All IsPairWithin ((b, x) ∷ [])
one_pair b x h k = All-cons IsPairWithin (b, x) [] (pair_within b x h k) (All-nil IsPairWithin)

one_rises : (b : ℕ) → Rises (b ∷ [])
one_rises b = ((λ y i. absurd i), tt)

one_more_rises : (b c : ℕ) (bs : List ℕ) → b < c → Rises (c ∷ bs) → Rises (b ∷ c ∷ bs)
one_more_rises b c bs h r = (
  (λ y i. elim i [
    | inl e ↦ (omega arith)
    | inr j ↦ (let k : c < y = r.0 y j in omega arith)
  ]),
  r,
)

cites_within : (b k c m : ℕ) → b ≤ 4 → k ≤ 4 → c ≤ 4 → m ≤ 4 →
    All IsRawCiteWithin ((b, raw_cite.Line k) ∷ (c, raw_cite.Line m) ∷ [])
cites_within b k c m h i j l = All-cons IsRawCiteWithin (b, raw_cite.Line k) ((c, raw_cite.Line m) ∷ [])
    (omega arith, omega arith)
    (All-cons IsRawCiteWithin (c, raw_cite.Line m) [] (omega arith, omega arith) (All-nil IsRawCiteWithin))

over_good : (H G : ℕ) (l : Claim) (earlier : List RawLine) → H ≤ 4 → G ≤ 4 → l ≢ [] → All IsPairWithin l →
    Rises (buffers_of l) → IsGood 2 earlier (LineRow (OverAs 0 H G (Full l)))
over_good H G l earlier h g n w r = record {
  formed = (n, tt);
  within = (lit< tt, omega arith, omega arith, w);
  rising = r;
  base = tt;
  changes = tt;
}

sample_good : AreGood 2 [] sample_spelled
sample_good = (
  over_good 3 1 ((2, 3) ∷ []) _ (lit≤ tt) (lit≤ tt) (λ e. cc) (one_pair 2 3 (lit≤ tt) (lit≤ tt)) (one_rises 2),
  (
    over_good 4 1 ((1, 4) ∷ []) _ (lit≤ tt) (lit≤ tt) (λ e. cc) (one_pair 1 4 (lit≤ tt) (lit≤ tt)) (one_rises 1),
    (
      record {
        formed = ((λ e. cc), (λ e. cc));
        within = (
          All-cons IsPairWithin (1, 1) ((2, 1) ∷ []) (lit≤ tt, lit≤ tt) (one_pair 2 1 (lit≤ tt) (lit≤ tt)),
          cites_within 1 0 2 1 (lit≤ tt) (lit≤ tt) (lit≤ tt) (lit≤ tt),
        );
        rising = (one_more_rises 1 2 [] (lit< tt) (one_rises 2), one_more_rises 1 2 [] (lit< tt) (one_rises 2));
        base = tt;
        changes = tt;
      },
      (
        record {
          formed = (refl, tt);
          within = (
            lit< tt,
            lit≤ tt,
            lit≤ tt,
            (
              lit≤ tt,
              All-cons IsChangeWithin (Puts (0, 2)) (Puts (1, 2) ∷ Drops 2 ∷ []) (lit≤ tt, lit≤ tt)
                  (All-cons IsChangeWithin (Puts (1, 2)) (Drops 2 ∷ []) (lit≤ tt, lit≤ tt)
                  (All-cons IsChangeWithin (Drops 2) [] (lit≤ tt) (All-nil IsChangeWithin))),
            ),
          );
          rising = one_more_rises 0 1 (2 ∷ []) (lit< tt) (one_more_rises 1 2 [] (lit< tt) (one_rises 2));
          base = lit< tt;
          changes = record {
            each = All-cons (DoesChange ((1, 1) ∷ (2, 1) ∷ [])) (Puts (0, 2)) (Puts (1, 2) ∷ Drops 2 ∷ []) no_0
                (All-cons (DoesChange ((1, 1) ∷ (2, 1) ∷ [])) (Puts (1, 2)) (Drops 2 ∷ []) no_1
                (All-cons (DoesChange ((1, 1) ∷ (2, 1) ∷ [])) (Drops 2) [] (inr (inl refl))
                (All-nil (DoesChange ((1, 1) ∷ (2, 1) ∷ [])))));
            some = λ e. cc;
          };
        },
        (
          record {
            formed = ((λ e. cc), (λ e. cc));
            within = (
              All-cons IsPairWithin (0, 0) ((1, 0) ∷ (2, 0) ∷ []) (lit≤ tt, lit≤ tt)
                  (All-cons IsPairWithin (1, 0) ((2, 0) ∷ []) (lit≤ tt, lit≤ tt) (one_pair 2 0 (lit≤ tt) (lit≤ tt))),
              All-cons IsRawCiteWithin (0, raw_cite.Line 2) ((1, raw_cite.Twin 0) ∷ (2, raw_cite.Line 3) ∷ [])
                  (lit≤ tt, lit≤ tt)
                  (All-cons IsRawCiteWithin (1, raw_cite.Twin 0) ((2, raw_cite.Line 3) ∷ []) (lit≤ tt, lit≤ tt)
                  (All-cons IsRawCiteWithin (2, raw_cite.Line 3) [] (lit≤ tt, lit≤ tt) (All-nil IsRawCiteWithin))),
            );
            rising = (
              one_more_rises 0 1 (2 ∷ []) (lit< tt) (one_more_rises 1 2 [] (lit< tt) (one_rises 2)),
              one_more_rises 0 1 (2 ∷ []) (lit< tt) (one_more_rises 1 2 [] (lit< tt) (one_rises 2)),
            );
            base = tt;
            changes = tt;
          },
          tt,
        ),
      ),
    ),
  ),
)
  where
    differ : (a b : ℕ) → b < a → a ≡ b → ⊥
    differ a b h q = omega arith

    no_0 : IsIn {X = Entry} (0, 2) ((1, 1) ∷ (2, 1) ∷ []) → ⊥
    no_0 (inl e) = differ 2 1 (lit< tt) (ap (λ (f : Entry). f.1) e)
    no_0 (inr (inl e)) = differ 2 1 (lit< tt) (ap (λ (f : Entry). f.1) e)
    no_0 (inr (inr i)) = absurd i

    no_1 : IsIn {X = Entry} (1, 2) ((1, 1) ∷ (2, 1) ∷ []) → ⊥
    no_1 (inl e) = differ 2 1 (lit< tt) (ap (λ (f : Entry). f.1) e)
    no_1 (inr (inl e)) = differ 2 1 (lit< tt) (ap (λ (f : Entry). f.1) e)
    no_1 (inr (inr i)) = absurd i

it_says_the_sample : SaysBy 2 (spelled_log 2 3 4 sample_spelled 4) sample
it_says_the_sample = record {
  spelled = sample_spelled;
  count_limit = lit≤ tt;
  capacity_limit = lit≤ tt;
  end_limit = lit≤ tt;
  good = sample_good;
  lines = refl;
  text = refl;
}

it_says_it_by_version_2 : Says (spelled_log 2 3 4 sample_spelled 4) sample
it_says_it_by_version_2 = inr it_says_the_sample
