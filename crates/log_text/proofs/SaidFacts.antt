-- Numbers at their limits and just past them, which of two faults of a row comes first, and what no text says.
use Rattle.std.proofs.Common.{◌≡◌, ℕ, ◌<◌, inl, inr, List, [], ◌∷◌, ◌++◌, codes, slice_index, refl, true, false, ap, lit<, lit≤, arith}
use Rattle.std.proofs.lemmas.List.Elements.{All-cons, All-nil}
use Rattle.log_text.specs.Changes.{Drops, above, below, has_entry}
use Rattle.log_text.specs.Faults.{GoesOn, HasHeader, IsFirstFault}
use Rattle.log_text.specs.Faults as fault
use Rattle.log_text.specs.Numerals.{numeral}
use Rattle.log_text.specs.RawLogs.{IsPairWithin, IsRawKept, IsRawLineWithin}
use Rattle.log_text.specs.RawLogs as logs
use Rattle.log_text.specs.RawTexts.{end_text, header_text}
use Rattle.log_text.specs.Says.{AreGood, EndRow, IsChangeWithin, IsGood, IsLineRising, LineRow, Says, SaysBy}
use Rattle.log_text.specs.Spellings.{CasesAs, From, Full, OverAs, claim_at, spelled_text}
use Rattle.log_text.specs.declared.fault.TextFault.TheVariants.{AfterEnd, BadChange, NoEnd, NotRising, NumberTooLarge}
use Rattle.log_text.specs.declared.raw.RawCite.TheVariants as raw_cite
use Rattle.log_text.specs.declared.raw.RawLine.{RawLine}
use Rattle.log_text.specs.declared.raw.RawLine.TheVariants as raw_line
use Rattle.log_text.specs.declared.raw.RawLog.{RawLog}
use Rattle.log_text.proofs.ExampleFacts.{met_first, not_3}
use Rattle.log_text.proofs.FirstFaults.{first_fault_unique}
use Rattle.log_text.proofs.KeptFacts.{its_text, line, log_with, not_of_another_capacity}
use Rattle.log_text.proofs.SpellingFacts.{begun, its_own_base, met, second, second_within, three}

-- ---- entries of a claim
-- the buffer itself is neither below nor above
below_2 : below 2 ((1, 5) ∷ (2, 1) ∷ (3, 0) ∷ []) ≡ (1, 5) ∷ []
below_2 = refl

above_2 : above 2 ((1, 5) ∷ (2, 1) ∷ (3, 0) ∷ []) ≡ (3, 0) ∷ []
above_2 = refl

-- an entry is there with its bound alone
with_its_bound : (has_entry (2, 1) ((1, 5) ∷ (2, 1) ∷ []) ≡ true) × (has_entry (2, 5) ((1, 5) ∷ (2, 1) ∷ []) ≡ false)
with_its_bound = (refl, refl)

-- lines are counted from 0, and past the last there is no claim
claims_of_lines : (claim_at (line ∷ raw_line.Over 0 4 1 ((1, 4) ∷ []) ∷ []) 1 ≡ (1, 4) ∷ [])
    × (claim_at (line ∷ []) 1 ≡ [])
claims_of_lines = (refl, refl)

-- ---- numbers at their limits
the_greatest_line : IsRawLineWithin (raw_line.Over 4611686018427387903 1152921504606846976 1152921504606846976
    ((1152921504606846976, 1152921504606846976) ∷ []))
the_greatest_line = (
  lit< tt,
  lit≤ tt,
  lit≤ tt,
  All-cons IsPairWithin (1152921504606846976, 1152921504606846976) [] (lit≤ tt, lit≤ tt) (All-nil IsPairWithin),
)

a_height_past_it : IsRawLineWithin (raw_line.Over 0 1152921504606846977 1 []) → ⊥
a_height_past_it (t, h, g, l) = omega (arith, h)

a_modulus_past_it : IsRawLineWithin (raw_line.Over 0 3 1152921504606846977 []) → ⊥
a_modulus_past_it (t, h, g, l) = omega (arith, g)

a_buffer_past_it : IsPairWithin (1152921504606846977, 0) → ⊥
a_buffer_past_it w = let k = w.0 in omega arith

a_bound_past_it : IsPairWithin (0, 1152921504606846977) → ⊥
a_bound_past_it w = let k = w.1 in omega arith

-- the numbers of cites have it too
a_cited_line_past_it : IsRawLineWithin (raw_line.Cases ((1, 1) ∷ []) ((1, raw_cite.Line 1152921504606846977) ∷ [])) → ⊥
a_cited_line_past_it w = let k = (w.1 0 (0, raw_cite.Line 0) (omega arith)).1 in omega arith

a_count_past_it : IsRawKept (record { count = 1152921504606846977; capacity = 4; lines = []; end = 0 }) → ⊥
a_count_past_it k = let w = k.count_limit in omega arith

an_end_past_it : IsRawKept (record { count = 3; capacity = 4; lines = []; end = 1152921504606846977 }) → ⊥
an_end_past_it k = let w = k.end_limit in omega arith

a_version_past_64_bits : HasHeader [] 18446744073709551616 3 4 [] → ⊥
a_version_past_64_bits h = let k = h.version_limit in omega arith

a_capacity_past_it : HasHeader [] 1 3 1152921504606846977 [] → ⊥
a_capacity_past_it h = let k = h.capacity_limit in omega arith

-- ---- lists that rise
-- the claim rises and the cites do not
the_cites_fall : logs.IsRising (raw_line.Cases ((1, 1) ∷ (2, 1) ∷ [])
    ((2, raw_cite.Line 0) ∷ (1, raw_cite.Line 0) ∷ [])) → ⊥
the_cites_fall r = let k : 2 < 1 = r.1.0 1 (inl refl) in omega arith

the_spelled_cites_fall : IsLineRising (CasesAs (Full ((1, 1) ∷ (2, 1) ∷ []))
    ((2, raw_cite.Line 0) ∷ (1, raw_cite.Line 0) ∷ [])) → ⊥
the_spelled_cites_fall r = let k : 2 < 1 = r.1.0 1 (inl refl) in omega arith

-- ---- which fault comes first
-- an end past its limit, with a byte after it
a_large_end : IsFirstFault (codes "dsalog 1 3 4\n" ++ (end_text 1152921504606846977 ++ codes "x")) (NumberTooLarge 0)
a_large_end = fault.too_large [] (EndRow 1152921504606846977) (codes "x")
    (met_first (end_text 1152921504606846977 ++ codes "x") (EndRow 1152921504606846977) (codes "x") refl tt)
    (λ w. omega (arith, w))

not_what_follows_it : IsFirstFault (codes "dsalog 1 3 4\n" ++ (end_text 1152921504606846977 ++ codes "x")) AfterEnd → ⊥
not_what_follows_it f = let e = first_fault_unique _ _ _ a_large_end f in cc

-- a base past its limit, which is no line before either
a_large_base : (text : List ℕ) →
    text ≡ header_text 2 5 11 ++ (spelled_text (OverAs 0 0 1 (Full three))
    ++ (spelled_text (second 1152921504606846977 []) ++ codes "end 1\n")) →
    IsFirstFault text (NumberTooLarge 1)
unfolding second
a_large_base text e = fault.too_large (raw_line.Over 0 0 1 three ∷ []) (LineRow (second 1152921504606846977 []))
    (codes "end 1\n") (met text 1152921504606846977 [] e) (λ (t, h, g, s). omega (arith, s.0))

-- changes that fall, of a line that is none before
falling_changes_of_no_line :
    IsFirstFault (codes "dsalog 2 5 11\nover 0 0 1 : 0=0 2=0 4=0\nover 0 0 1 : @1 -2 -0\nend 1\n") (NotRising 1)
unfolding numeral three second
falling_changes_of_no_line = fault.falls (raw_line.Over 0 0 1 three ∷ [])
    (LineRow (second 1 (Drops 2 ∷ Drops 0 ∷ []))) (codes "end 1\n") (met _ 1 (Drops 2 ∷ Drops 0 ∷ []) refl)
    (second_within 1 (Drops 2 ∷ Drops 0 ∷ []) (lit≤ tt)
    (All-cons IsChangeWithin (Drops 2) (Drops 0 ∷ []) (lit≤ tt)
    (All-cons IsChangeWithin (Drops 0) [] (lit≤ tt) (All-nil IsChangeWithin))))
    (λ r. let k : 2 < 0 = r.0 0 (inl refl) in omega arith)

-- a line that is its own base has no claim to change, and the base is told
not_its_changes : IsFirstFault (codes "dsalog 2 5 11\nover 0 0 1 : 0=0 2=0 4=0\nover 0 0 1 : @1\nend 1\n")
    (BadChange 1) → ⊥
not_its_changes f = let e = first_fault_unique _ _ _ its_own_base f in cc

-- a whole line does not end a log
no_end_after_a_line : IsFirstFault (codes "dsalog 1 5 11\nover 0 0 1 : 0=0 2=0 4=0\n") NoEnd
unfolding numeral three
no_end_after_a_line = fault.no_end 1 (raw_line.Over 0 0 1 three ∷ []) (begun 1 (inl refl) _ [] refl)

-- ---- texts that do not go on, and that say nothing
third_version : (bytes rest : List ℕ) (lines : List RawLine) → GoesOn 3 bytes lines rest → ⊥
third_version bytes rest lines g = not_3 g.known

apart : (a b : ℕ) → a < b → a ≡ b → ⊥
apart a b h e = omega arith

-- a header of version 1 does not begin a log of version 2
of_its_own_version : (lines : List RawLine) (rest : List ℕ) → GoesOn 2 (codes "dsalog 1 3 4\n") lines rest → ⊥
unfolding numeral
of_its_own_version lines rest g = apart 49 50 (lit< tt) (ap (λ (u : List ℕ). slice_index u 7) g.text)

says_by_its_version : (raw : RawLog) → SaysBy 2 (codes "dsalog 1 3 4\nover 0 3 1 : 2=3\nend 0\n") raw → ⊥
unfolding numeral
says_by_its_version raw s = apart 49 50 (lit< tt) (ap (λ (u : List ℕ). slice_index u 7) s.text)

says_its_log : Says (codes "dsalog 1 3 4\nover 0 3 1 : 2=3\nend 0\n") (log_with 4 line)
says_its_log = inl its_text

says_no_other : Says (codes "dsalog 1 3 4\nover 0 3 1 : 2=3\nend 0\n") (log_with 5 line) → ⊥
says_no_other (inl t) = not_of_another_capacity t
says_no_other (inr s) = says_by_its_version (log_with 5 line) s

-- the first line cannot be a difference
no_base_before_the_first : AreGood 2 [] (OverAs 0 3 1 (From 0 []) ∷ []) → ⊥
no_base_before_the_first g = absurd (omega (arith, g.0.base))

-- a difference is no line of version 1, whatever it changes
no_difference_in_1 : IsGood 1 (line ∷ []) (LineRow (OverAs 0 3 1 (From 0 (Drops 2 ∷ [])))) → ⊥
no_difference_in_1 g = omega (arith, g.formed.0)
