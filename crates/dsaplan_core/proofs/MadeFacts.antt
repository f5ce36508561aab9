-- What is made of a file that was given: a log trimmed, a log in the second version of its text, and the instance of
-- one period.
use Rattle.std.proofs.Common.{◌≡◌, ◌∙◌, ℕ, zero, suc, List, [], ◌∷◌, length, Result, Ok, codes, refl, sym, ap, subst, inr, lit≤, arith}
use Rattle.std.specs.FinMap.{insert}
use Rattle.dsa_terms.specs.Buffers.{Instance, is_live, some_before}
use Rattle.dsa_terms.specs.Logs.{Over}
use Rattle.dsa_terms.specs.Parts.{has}
use Rattle.dsa_terms.specs.Trims.{IsTrimOf, rank}
use Rattle.dsa_trim_laws.specs.Trimmed.{needed, with_cited}
use Rattle.dsa_trim_laws.proofs.Needed.{CitesEarlier, kept_by}
use Rattle.dsa_model.specs.Buffer.{is_ever_live}
use Rattle.dsa_outside.specs.Seen.{FilesSeen}
use Rattle.csv_instance.specs.Records.{table_of}
use Rattle.csv_instance.proofs.FileFacts.{two, two_file, two_reads, two_rows}
use Rattle.cyclic_plan.specs.Cycles.{unrolled}
use Rattle.cyclic_plan.specs.Unrolled.{unrolled_of, unrolled_text}
use Rattle.cyclic_plan.specs.declared.fault.CycleFault.{CycleFault}
use Rattle.cyclic_plan.proofs.Tables.{unrolled_gives}
use Rattle.log_text.specs.Numerals.{numeral}
use Rattle.log_text.specs.RawTexts.{IsTextOf}
use Rattle.log_text.specs.Spellings.{log_text2}
use Rattle.log_text.specs.Text.{log_text, raw_log_of}
use Rattle.log_text.proofs.Saying.{text2_says}
use Rattle.command_words.specs.Options.{Word}
use Rattle.command_words.specs.Pairs.{pairs_of}
use Rattle.command_words.specs.declared.role.Role.TheVariants as role
use Rattle.command_words.specs.declared.verb.Verb.TheVariants as verb
use Rattle.run_status.specs.declared.status.Status.TheVariants as status
use Rattle.dsaplan_core.specs.Derived.{AskedOf, Derived, HoldsUnrolled}
use Rattle.dsaplan_core.specs.Judged.{HoldsTrimmed, HoldsUpgraded, Judged}
use Rattle.dsaplan_core.specs.Theorem.{Asked}
use Rattle.dsaplan_core.proofs.WorldFacts.{input_alone, reads_input, told, unroll_values, upgrade_values}
use Rattle.dsaplan_core.proofs.HeldFacts.{seven_log}
use Rattle.dsaplan_core.proofs.OutcomeFacts.{refute_asked, says_seven}
use Rattle.dsaplan_core.proofs.PremiseFacts.{refute_values, with_file, with_log}
use Rattle.dsaplan_core.proofs.RefutedFacts.{refuted_at_7, seven_file, seven_reads}

-- ---- a log by which 7 bytes are too few is accepted
accepted_at_7 : Judged (codes "refute" ∷ refute_values) with_log with_log (status.Accepted 7)
accepted_at_7 = (refute_asked, refl, (seven_log, says_seven, refl), refl)

-- ---- it is trimmed: its one line stays
abbrev trimming : List Word
trimming = codes "trim" ∷ upgrade_values

abbrev trim_asked : Asked trimming with_log
trim_asked = record {
  verb = verb.Trim;
  pairs = pairs_of upgrade_values;
  table = table_of two_file;
  instance = two;
  words_ask = refl;
  input = refute_asked.input;
}

-- the output stands beside the log's file
abbrev made : List ℕ → FilesSeen
made bytes = told (insert (with_file (codes "l") seven_file) (codes "o") bytes)

cites_nothing : CitesEarlier 0 seven_log.lines
cites_nothing zero line j h i =
    let e : Over ((0, 0) ∷ (1, 0) ∷ []) 4 0 1 ≡ line = cc in absurd (rw (← e) at i)
cites_nothing (suc k) line j h i = absurd cc

it_is_its_own_trim : IsTrimOf seven_log seven_log
unfolding rank needed with_cited has
it_is_its_own_trim = record {
  is_kept = λ k. has k (needed seven_log);
  kept = λ k. (let e = kept_by seven_log k cites_nothing in (e.1, e.0));
  count = refl;
  capacity = refl;
  lines = refl;
  last = refl;
}

seven_text : log_text seven_log ≡ seven_file
unfolding numeral
seven_text = refl

is_trimmed : HoldsTrimmed trim_asked (made (log_text seven_log)) seven_log 1
is_trimmed = record {
  trim = seven_log;
  is_trim = it_is_its_own_trim;
  count = refl;
  accepted = refuted_at_7.accepted;
  readable = subst (λ (bytes : List ℕ). IsTextOf bytes (raw_log_of seven_log)) (sym seven_text) seven_reads;
  files = refl;
}

trimmed_to_one : Judged trimming with_log (made (log_text seven_log)) (status.Trimmed 1 1)
trimmed_to_one = (trim_asked, refl, (seven_log, says_seven, refl, is_trimmed))

-- a trim of an accepted log has a line
not_trimmed_to_none : (new : FilesSeen) → HoldsTrimmed trim_asked new seven_log 0 → ⊥
not_trimmed_to_none new h = let last = h.is_trim.last in let count = h.count in omega (arith, last, count)

-- ---- it is upgraded
abbrev upgrading : List Word
upgrading = codes "upgrade" ∷ upgrade_values

abbrev upgrade_asked : Asked upgrading with_log
upgrade_asked = record {
  verb = verb.Upgrade;
  pairs = pairs_of upgrade_values;
  table = table_of two_file;
  instance = two;
  words_ask = refl;
  input = refute_asked.input;
}

second_text : log_text2 seven_log ≡ codes "dsalog 2 2 7\nover 4 0 1 : 0=0 1=0\nend 0\n"
unfolding numeral
second_text = refl

is_upgraded : HoldsUpgraded upgrade_asked (made (log_text2 seven_log)) seven_log
is_upgraded = record {
  readable = inr (text2_says (raw_log_of seven_log) seven_reads.kept seven_reads.cited (lit≤ tt));
  files = refl;
}

upgraded_whole : Judged upgrading with_log (made (log_text2 seven_log)) (status.Upgraded 1)
upgraded_whole = (upgrade_asked, refl, (seven_log, says_seven, refl, is_upgraded))

-- ---- two rows that repeat every 10 moments: their instance of one period is written
rows_unroll : unrolled_of 10 two_rows ≡ Ok two
unfolding unrolled_of unrolled is_ever_live some_before is_live
rows_unroll = refl

two_unroll : unrolled_of 10 (table_of two_file) ≡ Ok two
two_unroll = ap (unrolled_of 10) two_reads ∙ rows_unroll

abbrev unroll_asked : AskedOf (codes "unroll" ∷ unroll_values) (told input_alone) verb.Unroll role.Input
unroll_asked = record {
  pairs = pairs_of unroll_values;
  bytes = two_file;
  words_ask = refl;
  whole = record { held = λ there. reads_input; short = lit≤ tt };
}

abbrev unrolled_files : FilesSeen
unrolled_files = told (insert input_alone (codes "o") (unrolled_text 10 (table_of two_file)))

is_unrolled : HoldsUnrolled unroll_asked unrolled_files 2
is_unrolled = record {
  instance = two;
  given = two_unroll;
  its_count = refl;
  unrolled = unrolled_gives 10 (table_of two_file) two (lit≤ tt) two_unroll;
  files = refl;
}

two_are_unrolled : Derived (codes "unroll" ∷ unroll_values) (told input_alone) unrolled_files (status.Unrolled 2)
two_are_unrolled = (unroll_asked, is_unrolled)

-- no row is left out
not_one : (new : FilesSeen) → HoldsUnrolled unroll_asked new 1 → ⊥
not_one new h = one h.instance h.given h.its_count
  where
    same_ok : (I J : Instance) → ◌≡◌ {A = Result Instance CycleFault} (Ok I) (Ok J) → I ≡ J
    same_ok I J e = cc

    one : (I : Instance) → unrolled_of 10 (table_of two_file) ≡ Ok I → length I ≡ 1 → ⊥
    one I given e =
        let same : two ≡ I = same_ok two I (sym two_unroll ∙ given) in
        let n : 2 ≡ length I = ap length same in
        omega (arith, n, e)
