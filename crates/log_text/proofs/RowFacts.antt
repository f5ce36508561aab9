-- Worked rows and headers as they are read, and the claims of lines.
use Rattle.std.proofs.Common.{◌≡◌, ℕ, ◌<◌, Some, inl, inr, List, [], ◌∷◌, codes, refl, ap, lit<, lit≤, arith}
use Rattle.std.proofs.lemmas.List.Elements.{All-cons, All-nil}
use Rattle.dsa_terms.specs.Claims.{Entry, IsIn}
use Rattle.log_text.specs.Changes.{AreChanges, DoesChange, Drops, Puts}
use Rattle.log_text.specs.Edits.{AreChangesRead, EndsChanges, EndsSpelling, HasNoChanges, capped_change, change_value, changes_text}
use Rattle.log_text.specs.Faults.{HasHeader, HasRow}
use Rattle.log_text.specs.Numerals.{numeral}
use Rattle.log_text.specs.RawLogs.{raw_claim_of}
use Rattle.log_text.specs.Reading.{fitting}
use Rattle.log_text.specs.Rows.{HasNoBase, HasNoCases, HasNoDifference, HasNoHeader, HasNoOver, HasNoSpelling, IsCasesRead, IsClaimSaid, IsDifferenceRead, IsFaultAfter, IsGoodRead, IsHeaderRead, IsLineSaid, IsOverRead, IsRowRead, IsSpellingRead, IsStarted, IsUnsaid, capped_line, capped_row, capped_spelling, cases_rest, over_rest, row_said, row_value, spelled_value, spelling_value}
use Rattle.log_text.specs.Says.{EndRow, HasBase, HasChanges, IsChangeWithin, IsCited, IsFormed, IsGood, IsLineFormed, IsLineRising, IsLineWithin, IsRising, IsSpellingFormed, IsSpellingRising, IsSpellingWithin, IsWithin, LineRow, row_text}
use Rattle.log_text.specs.Spellings.{CasesAs, From, Full, OverAs, Spelled}
use Rattle.log_text.specs.declared.changes.Edit.TheVariants as edit
use Rattle.log_text.specs.declared.fault.TextFault.TheVariants.{BadLine}
use Rattle.log_text.specs.declared.raw.RawCite.TheVariants as raw_cite
use Rattle.log_text.specs.declared.raw.RawLine.{RawLine}
use Rattle.log_text.specs.declared.raw.RawLine.TheVariants as raw_line
use Rattle.log_text.specs.declared.rows.Read.{Read}
use Rattle.log_text.specs.declared.rows.Read.TheVariants as read
use Rattle.log_text.specs.declared.rows.ReadClaim.TheVariants as read_claim
use Rattle.log_text.specs.declared.rows.ReadLine.TheVariants as read_line
use Rattle.log_text.specs.declared.said.Said.{Said}
use Rattle.log_text.specs.declared.said.Said.TheVariants as said
use Rattle.log_text.specs.declared.said.Unsaid.TheVariants as unsaid
use Rattle.log_text.proofs.ExampleFacts.{apart, differs, no_row}
use Rattle.log_text.proofs.KeptFacts.{line, line_kept, line_within, twice}
use Rattle.log_text.proofs.RowLemmas.{row_none}
use Rattle.log_text.proofs.Splits.{newline_ends_spelling}
use Rattle.log_text.proofs.Unique.{header_form}

-- ---- lines
claim_of_over : raw_claim_of line ≡ (2, 3) ∷ []
claim_of_over = refl

claim_of_cases : raw_claim_of (raw_line.Cases ((1, 4) ∷ []) ((1, raw_cite.Line 0) ∷ [])) ≡ (1, 4) ∷ []
claim_of_cases = refl

-- the line as it is spelled in full
abbrev in_full : Spelled
in_full = OverAs 0 3 1 (Full ((2, 3) ∷ []))

-- the same claim without a buffer, and with one more
abbrev by_changes : Spelled
by_changes = OverAs 0 3 1 (From 0 (Puts (1, 2) ∷ Drops 2 ∷ []))

-- ---- forms
no_claim_without_buffers : IsSpellingFormed 1 (Full []) → ⊥
no_claim_without_buffers f = f refl

differences_in_2 : IsSpellingFormed 2 (From 0 [])
differences_in_2 = refl

no_differences_in_1 : IsSpellingFormed 1 (From 0 []) → ⊥
no_differences_in_1 f = omega (arith, f)

an_over_line_needs_no_cite : IsCited in_full
an_over_line_needs_no_cite = tt

a_cases_line_needs_one : IsCited (CasesAs (Full ((2, 3) ∷ [])) []) → ⊥
a_cases_line_needs_one c = c refl

line_formed : IsLineFormed 1 in_full
line_formed = (λ e. cc, tt)

row_formed : IsFormed 2 (LineRow by_changes)
row_formed = (refl, tt)

its_bytes : row_text (LineRow by_changes) ≡ codes "over 0 3 1 : @0 1=2 -2\n"
unfolding numeral
its_bytes = refl

-- ---- limits
a_drop_has_the_limit_of_buffers : IsChangeWithin (Drops 1152921504606846977) → ⊥
a_drop_has_the_limit_of_buffers w = omega (arith, w)

a_base_has_it_too : IsSpellingWithin (From 1152921504606846977 []) → ⊥
a_base_has_it_too w = let k = w.0 in omega arith

changes_within : IsLineWithin by_changes
changes_within = (
  lit< tt,
  lit≤ tt,
  lit≤ tt,
  (
    lit≤ tt,
    All-cons IsChangeWithin (Puts (1, 2)) (Drops 2 ∷ []) (lit≤ tt, lit≤ tt)
        (All-cons IsChangeWithin (Drops 2) [] (lit≤ tt) (All-nil IsChangeWithin)),
  ),
)

row_within : IsWithin (LineRow in_full)
row_within = line_within

end_past_the_limit : IsWithin (EndRow 1152921504606846977) → ⊥
end_past_the_limit w = omega (arith, w)

-- ---- lists that rise
changes_rise : IsLineRising by_changes
changes_rise = ((λ y i. elim i [ inl e ↦ (omega arith) | inr j ↦ absurd j ]), ((λ y i. absurd i), tt))

a_buffer_changed_twice : IsSpellingRising (From 0 (Drops 2 ∷ Puts (2, 3) ∷ [])) → ⊥
a_buffer_changed_twice r = let k : 2 < 2 = r.0 2 (inl refl) in omega arith

row_rising : IsRising (LineRow in_full)
row_rising = line_kept.rising

row_not_rising : IsRising (LineRow (OverAs 0 3 1 (Full twice))) → ⊥
row_not_rising r = let k : 2 < 2 = r.0 2 (inl refl) in omega arith

-- ---- bases and changes
earlier_line : HasBase (line ∷ []) (LineRow by_changes)
earlier_line = lit< tt

no_line_before_the_first : HasBase [] (LineRow by_changes) → ⊥
no_line_before_the_first b = absurd (omega (arith, b))

not_changed : HasChanges (line ∷ []) (LineRow (OverAs 0 3 1 (From 0 (Puts (2, 3) ∷ [])))) → ⊥
not_changed c = c.each 0 (Drops 0) (omega arith) (inl refl)

-- ---- what was read
value_of_full : spelling_value (read_claim.Full ((2, 3) ∷ [])) ≡ Full ((2, 3) ∷ [])
value_of_full = refl

value_of_line : spelled_value (read_line.Over 0 3 1 (read_claim.Full ((2, 3) ∷ []))) ≡ in_full
value_of_line = refl

value_of_row : row_value (read.Line (read_line.Over 0 3 1 (read_claim.Full ((2, 3) ∷ [])))) ≡ LineRow in_full
value_of_row = refl

value_of_end : row_value (read.End 7) ≡ EndRow 7
value_of_end = refl

value_of_a_drop : change_value (edit.Drops 2) ≡ Drops 2
value_of_a_drop = refl

drop_capped : capped_change (Drops 18446744073709551616) ≡ Drops 18446744073709551615
drop_capped = refl

base_capped : capped_spelling (From 18446744073709551616 []) ≡ From 18446744073709551615 []
base_capped = refl

line_capped : capped_line (OverAs 18446744073709551616 3 1 (Full ((2, 3) ∷ [])))
    ≡ OverAs 18446744073709551615 3 1 (Full ((2, 3) ∷ []))
line_capped = refl

end_capped : capped_row (EndRow 18446744073709551616) ≡ EndRow 18446744073709551615
end_capped = refl

-- ---- changes
two_changes : changes_text (Puts (0, 2) ∷ Drops 2 ∷ []) ≡ codes " 0=2 -2"
unfolding numeral
two_changes = refl

a_newline_ends_changes : EndsChanges (codes "\n")
a_newline_ends_changes = newline_ends_spelling

an_at_ends_none : EndsSpelling (codes "@") → ⊥
an_at_ends_none e = e.no_base [] refl

changes_there : AreChangesRead (codes "\n") (codes " 0=2 -2\nx") (Puts (0, 2) ∷ Drops 2 ∷ []) (codes "x")
unfolding numeral
changes_there = record { items = Puts (0, 2) ∷ Drops 2 ∷ []; text = refl; values_are = refl }

they_are_there : HasNoChanges (codes "\n") (codes " 0=2 -2\nx") → ⊥
unfolding numeral
they_are_there h = h (Puts (0, 2) ∷ Drops 2 ∷ []) (codes "x") refl

-- ---- claims
claim_there : IsSpellingRead 1 (codes "\n") (codes "2=3\nx") (Full ((2, 3) ∷ [])) (codes "x")
unfolding numeral
claim_there = record { spelling = Full ((2, 3) ∷ []); formed = λ e. cc; text = refl; value_is = refl }

difference_there : IsSpellingRead 2 (codes "\n") (codes "@0 1=2 -2\nx") (From 0 (Puts (1, 2) ∷ Drops 2 ∷ []))
    (codes "x")
unfolding numeral
difference_there = record {
  spelling = From 0 (Puts (1, 2) ∷ Drops 2 ∷ []);
  formed = refl;
  text = refl;
  value_is = refl;
}

it_is_there : HasNoSpelling 2 (codes "\n") (codes "@0 1=2 -2\nx") → ⊥
unfolding numeral
it_is_there h = h (From 0 (Puts (1, 2) ∷ Drops 2 ∷ [])) (codes "x") refl refl

no_base_begins : HasNoBase (codes "2=3\n")
no_base_begins r e = apart 50 64 (omega arith) cc

a_base_begins : HasNoBase (codes "@0\n") → ⊥
a_base_begins h = h (codes "0\n") refl

after_its_first_byte : IsDifferenceRead (codes "\n") (codes "0 -2\nx") (From 0 (Drops 2 ∷ [])) (codes "x")
unfolding numeral
after_its_first_byte = record { base = 0; changes = Drops 2 ∷ []; text = refl; value_is = refl }

there_after_its_first_byte : HasNoDifference (codes "\n") (codes "0 -2\nx") → ⊥
unfolding numeral
there_after_its_first_byte h = h 0 (Drops 2 ∷ []) (codes "x") refl

-- ---- lines after their first word
over_text : over_rest 0 3 1 (From 0 (Drops 2 ∷ [])) (codes "x") ≡ codes "0 3 1 : @0 -2\nx"
unfolding numeral
over_text = refl

over_read : IsOverRead 1 (codes "0 3 1 : 2=3\nx") in_full (codes "x")
unfolding numeral
over_read = record {
  T = 0;
  H = 3;
  G = 1;
  spelling = Full ((2, 3) ∷ []);
  formed = λ e. cc;
  text = refl;
  line_is = refl;
}

over_there : HasNoOver 1 (codes "0 3 1 : 2=3\nx") → ⊥
unfolding numeral
over_there h = h 0 3 1 (Full ((2, 3) ∷ [])) (codes "x") (λ e. cc) refl

cases_text : cases_rest (Full ((2, 3) ∷ [])) ((2, raw_cite.Line 0) ∷ []) (codes "x") ≡ codes "2=3 : 2>0\nx"
unfolding numeral
cases_text = refl

cases_read : IsCasesRead 2 (codes "@1 : 2>0\nx") (CasesAs (From 1 []) ((2, raw_cite.Line 0) ∷ [])) (codes "x")
unfolding numeral
cases_read = record {
  spelling = From 1 [];
  cites = (2, raw_cite.Line 0) ∷ [];
  formed = (refl, λ e. cc);
  text = refl;
  line_is = refl;
}

cases_there : HasNoCases 2 (codes "@1 : 2>0\nx") → ⊥
unfolding numeral
cases_there h = h (From 1 []) ((2, raw_cite.Line 0) ∷ []) (codes "x") (refl, λ e. cc) refl

-- ---- rows
line_row : HasRow 1 (codes "over 0 3 1 : 2=3\nend 0\n") (LineRow in_full) (codes "end 0\n")
unfolding numeral
line_row = record { formed = line_formed; text = refl }

not_at_an_end : HasRow 1 (codes "end 0\n") (LineRow in_full) [] → ⊥
unfolding numeral
not_at_an_end h = let e = h.text in absurd cc

row_read : IsRowRead 1 (codes "over 0 3 1 : 2=3\nend 0\n")
    (read.Line (read_line.Over 0 3 1 (read_claim.Full ((2, 3) ∷ []))))
    (codes "end 0\n")
row_read = record { row = LineRow in_full; is_row = line_row; value_is = refl }

none_read : (value : Read) (new : List ℕ) → IsRowRead 1 (codes "x\n") value new → ⊥
none_read value new r = no_row 1 r.row new r.is_row.formed r.is_row.text

-- ---- what is said
its_changes : AreChanges ((2, 3) ∷ []) (Puts (1, 2) ∷ Drops 2 ∷ [])
its_changes = record {
  each = All-cons (DoesChange ((2, 3) ∷ [])) (Puts (1, 2)) (Drops 2 ∷ []) not_there
      (All-cons (DoesChange ((2, 3) ∷ [])) (Drops 2) [] (inl refl) (All-nil (DoesChange ((2, 3) ∷ []))));
  some = λ e. cc;
}
  where
    apart : (a b : ℕ) → a < b → a ≡ b → ⊥
    apart a b h e = omega arith

    not_there : IsIn {X = Entry} (1, 2) ((2, 3) ∷ []) → ⊥
    not_there (inl e) = apart 1 2 (lit< tt) (ap (λ (f : Entry). f.0) e)
    not_there (inr i) = absurd i

the_claim_said : IsClaimSaid (line ∷ []) (From 0 (Puts (1, 2) ∷ Drops 2 ∷ [])) ((1, 2) ∷ [])
the_claim_said = record { base = lit< tt; changes = its_changes; claim_is = refl }

the_line_said : IsLineSaid (line ∷ []) by_changes (raw_line.Over 0 3 1 ((1, 2) ∷ []))
the_line_said = record { base = lit< tt; changes = its_changes; line_is = refl }

another_line_said : IsLineSaid (line ∷ []) by_changes line → ⊥
another_line_said h = let e = h.line_is in apart 2 1 (lit< tt) (ap first_buffer e)
  where
    first_buffer : RawLine → ℕ
    first_buffer (raw_line.Over T H G ((b, x) ∷ l)) = b
    first_buffer (raw_line.Over T H G []) = 0
    first_buffer (raw_line.Cases l cites) = 0

    apart : (a b : ℕ) → b < a → a ≡ b → ⊥
    apart a b h e = omega arith

said_of_no_line : IsUnsaid [] (From 0 []) unsaid.NoBase
said_of_no_line b = absurd (omega (arith, b))

said_without_buffers : IsUnsaid (line ∷ []) (From 0 (Drops 2 ∷ [])) unsaid.NoChange
said_without_buffers = (lit< tt, λ c. c.some refl)

row_said_is : row_said (line ∷ []) (LineRow by_changes) ≡ said.Line (raw_line.Over 0 3 1 ((1, 2) ∷ []))
row_said_is = refl

end_said : row_said [] (EndRow 7) ≡ said.End 7
end_said = refl

good_line : IsGood 2 (line ∷ []) (LineRow by_changes)
good_line = record {
  formed = row_formed;
  within = changes_within;
  rising = changes_rise;
  base = lit< tt;
  changes = its_changes;
}

good_read : IsGoodRead 2 (line ∷ []) (codes "over 0 3 1 : @0 1=2 -2\nend 0\n")
    (said.Line (raw_line.Over 0 3 1 ((1, 2) ∷ []))) (codes "end 0\n")
unfolding numeral
good_read = record { row = LineRow by_changes; good = good_line; text = refl; says = refl }

not_good : (value : Said) → IsGoodRead 2 [] (codes "x\n") value [] → ⊥
not_good value g = no_row 2 g.row [] g.good.formed g.text

bad_after : IsFaultAfter 2 (line ∷ []) (codes "x\n") (BadLine 1)
bad_after = row_none 2 (line ∷ []) (codes "x\n") 1 refl (λ e. cc) (no_row 2)

-- ---- headers
header_there : HasHeader (codes "dsalog 1 3 4\nend 0\n") 1 3 4 (codes "end 0\n")
unfolding numeral
header_there = record { version_limit = lit< tt; count_limit = lit≤ tt; capacity_limit = lit≤ tt; text = refl }

count_past_the_limit : HasHeader [] 1 1152921504606846977 4 [] → ⊥
count_past_the_limit h = let k = h.count_limit in omega arith

header_read : IsHeaderRead (codes "dsalog 1 3 4\nend 0\n") (Some 1) (Some 3) (Some 4) (codes "end 0\n")
unfolding numeral fitting
header_read = record {
  v = 1;
  n = 3;
  c = 4;
  text = refl;
  version_is = refl;
  count_is = refl;
  capacity_is = refl;
}

no_header_there : HasNoHeader (codes "x 1 3 4\n")
no_header_there v n c r e = differs 120 100 _ _ _ (omega arith) e (header_form v n c r)

a_header_there : HasNoHeader (codes "dsalog 1 3 4\nend 0\n") → ⊥
unfolding numeral
a_header_there h = h 1 3 4 (codes "end 0\n") refl

started : IsStarted (codes "dsalog 2 3 4\nend 0\n") 2 3 4 (codes "end 0\n")
unfolding numeral
started = record {
  header = record { version_limit = lit< tt; count_limit = lit≤ tt; capacity_limit = lit≤ tt; text = refl };
  known = inr refl;
}
