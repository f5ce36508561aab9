-- What the sample log is told as, and what trimming makes of the sample log after a line that nothing cites.
use Rattle.std.proofs.Common.{◌≡◌, ◌∙◌, ◌<◌, List, ℕ, zero, suc, [], ◌∷◌, All, codes, inl, inr, refl, sym, lit<, lit≤, arith}
use Rattle.std.proofs.lemmas.List.Elements.{All-cons, All-nil}
use Rattle.dsa_terms.specs.Claims.{IsIn}
use Rattle.dsa_terms.specs.Logs.{Log, Over}
use Rattle.dsa_trim_laws.proofs.ExampleFacts.{sample_is_trim, with_extra}
use Rattle.dsa_terms.proofs.Examples.{evens, sample}
use Rattle.log_text.specs.Numerals.{numeral}
use Rattle.log_text.specs.RawLogs.{IsPairWithin, IsRawKept, IsRawLineKept}
use Rattle.log_text.specs.RawTexts.{HasCite}
use Rattle.log_text.specs.Says.{Says}
use Rattle.log_text.specs.Spellings.{log_text2}
use Rattle.log_text.specs.Text.{log_text, raw_line_of, raw_log_of}
use Rattle.log_text.specs.declared.raw.RawLine.{RawLine}
use Rattle.log_text.proofs.Saying.{text2_says}
use Rattle.command_words.specs.declared.role.Role.TheVariants as role
use Rattle.run_status.specs.declared.status.Status.TheVariants as status
use Rattle.run_course.specs.Course.{Outcome, says, writes}
use Rattle.readings.specs.Checking.{Checks, is_accepted}
use Rattle.readings.proofs.SampleFacts.{none_at_4, sample_is_accepted, sample_reads_back}
use Rattle.checking.specs.Checking.{Trims, Upgrades, upgrading}

-- `refute` accepts the sample log at 4
accepted_at_4 : (bytes : List ℕ) → Says bytes (raw_log_of sample) →
    Checks evens bytes (λ log o. o ≡ says (status.Accepted log.capacity)) (says (status.Accepted 4))
accepted_at_4 bytes is = is_accepted sample is sample_is_accepted none_at_4 refl

-- by its own text
its_text_is_accepted : Checks evens (log_text sample) (λ log o. o ≡ says (status.Accepted log.capacity))
    (says (status.Accepted 4))
its_text_is_accepted = accepted_at_4 (log_text sample) (inl sample_reads_back)

-- ---- `trim`
six_lines_become_five : Trims (codes "o") evens with_extra (writes
    (record { role = role.Output; name = codes "o"; bytes = log_text sample } ∷ []) (status.Trimmed 6 5))
six_lines_become_five = record {
  trim = sample;
  is_trim = sample_is_trim;
  accepted = sample_is_accepted;
  readable = sample_reads_back;
  outcome = refl;
}

-- ---- `upgrade`
-- a log that has one line twice
abbrev with_one_twice : Log
with_one_twice = record {
  count = 5;
  capacity = 11;
  lines = Over ((0, 0) ∷ (2, 0) ∷ (4, 0) ∷ []) 0 0 1 ∷ Over ((0, 0) ∷ (2, 0) ∷ (4, 0) ∷ []) 0 0 1 ∷ [];
  final = 1;
}

abbrev its_second_version : Outcome
its_second_version = writes (record {
  role = role.Output;
  name = codes "o";
  bytes = codes "dsalog 2 5 11\nover 0 0 1 : 0=0 2=0 4=0\nover 0 0 1 : @0\nend 1\n";
} ∷ []) (status.Upgraded 2)

the_second_is_a_difference : upgrading (codes "o") with_one_twice ≡ its_second_version
unfolding numeral
the_second_is_a_difference = refl

-- its numbers are within their limits and its lists rise, so its text says it
abbrev its_line : RawLine
its_line = raw_line_of (Over ((0, 0) ∷ (2, 0) ∷ (4, 0) ∷ []) 0 0 1)

line_kept : IsRawLineKept its_line
line_kept = record {
  not_empty = λ e. cc;
  rising = (after_0, (after_2, ((λ y i. absurd i), tt)));
  within = (lit< tt, lit≤ tt, lit≤ tt, pairs);
}
  where
    after_0 : (y : ℕ) → IsIn y (2 ∷ 4 ∷ []) → 0 < y
    after_0 y (inl e) = rw e (lit< tt)
    after_0 y (inr (inl e)) = rw e (lit< tt)
    after_0 y (inr (inr i)) = absurd i

    after_2 : (y : ℕ) → IsIn y (4 ∷ []) → 2 < y
    after_2 y (inl e) = rw e (lit< tt)
    after_2 y (inr i) = absurd i

    pairs : All IsPairWithin ((0, 0) ∷ (2, 0) ∷ (4, 0) ∷ [])
    pairs zero d lt = (lit≤ tt, lit≤ tt)
    pairs (suc zero) d lt = (lit≤ tt, lit≤ tt)
    pairs (suc (suc zero)) d lt = (lit≤ tt, lit≤ tt)
    pairs (suc (suc (suc k))) d lt = absurd (omega arith)

its_text_says_it : Says (log_text2 with_one_twice) (raw_log_of with_one_twice)
its_text_says_it = inr (text2_says (raw_log_of with_one_twice) kept cited (lit≤ tt))
  where
    cited : All HasCite (its_line ∷ its_line ∷ [])
    cited = All-cons HasCite its_line (its_line ∷ []) tt (All-cons HasCite its_line [] tt (All-nil HasCite))

    kept : IsRawKept (raw_log_of with_one_twice)
    kept = record {
      count_limit = lit≤ tt;
      capacity_limit = lit≤ tt;
      end_limit = lit≤ tt;
      lines = All-cons IsRawLineKept its_line (its_line ∷ []) line_kept
          (All-cons IsRawLineKept its_line [] line_kept (All-nil IsRawLineKept));
    }

two_lines_are_upgraded : Upgrades (codes "o") with_one_twice its_second_version
two_lines_are_upgraded = record { readable = its_text_says_it; outcome = sym the_second_is_a_difference }

-- and nothing else may be
nothing_else : (o : Outcome) → Upgrades (codes "o") with_one_twice o → o ≡ its_second_version
nothing_else o is = is.outcome ∙ the_second_is_a_difference
