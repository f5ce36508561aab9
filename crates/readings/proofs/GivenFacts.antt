-- What reading the files of the two buffers comes to, and of logs.
use Rattle.std.proofs.Common.{◌≡◌, ℕ, List, [], ◌∷◌, Some, inl, inr, refl, sym, lit≤}
use Rattle.dsa_terms.proofs.Examples.{evens, sample}
use Rattle.dsa_model.specs.declared.layout.LayoutFault.TheVariants as layout
use Rattle.dsa_model.proofs.LayoutFaults.{layout_exactly}
use Rattle.dsa_outside.specs.Held.{IsMissing, file_at}
use Rattle.dsa_outside.specs.Seen.{FilesSeen}
use Rattle.csv_instance.specs.declared.fault.InstanceFault.TheVariants as instance
use Rattle.csv_instance.specs.declared.fault.OffsetsFault.TheVariants as offsets
use Rattle.csv_instance.proofs.FileFacts.{high_file, high_offsets, low_file, low_offsets, no_bytes, short_file, two, two_file, two_parse, two_reads, two_rows, without_y}
use Rattle.command_words.specs.Options.{Word}
use Rattle.command_words.specs.declared.role.Role.TheVariants as role
use Rattle.log_check.specs.declared.fault.CheckFault.TheVariants as check
use Rattle.log_text.specs.Says.{Says}
use Rattle.log_text.specs.Text.{raw_log_of}
use Rattle.log_text.specs.declared.fault.TextFault.TheVariants as text
use Rattle.refute_log.specs.declared.reason.Reason.TheVariants as reason
use Rattle.run_status.specs.declared.status.LogCause.TheVariants as cause
use Rattle.run_status.specs.declared.status.Status.TheVariants as status
use Rattle.run_status.specs.declared.status.WrongCause.TheVariants as wrong
use Rattle.run_course.specs.Readings.{IsWholeFile}
use Rattle.readings.specs.GivenLayouts.{GivesLayout, GivesNoOffsets, JudgesTable}
use Rattle.readings.specs.GivenLogs.{ChecksLog}
use Rattle.readings.specs.Opens.{OpensInput}
use Rattle.readings.specs.declared.input.Input.TheVariants as input
use Rattle.readings.specs.declared.layout_file.Judged.TheVariants as judged
use Rattle.readings.specs.declared.log_file.Checked.TheVariants as checked
use Rattle.readings.proofs.ExampleFacts.{apart_at_8, overlap_at_4}
use Rattle.readings.proofs.LogFacts.{forged, no_header, too_low}
use Rattle.readings.proofs.SampleFacts.{none_at_4, sample_is_accepted}

module _ (files : FilesSeen) (name : Word) where
  -- ---- inputs
  opens_the_two : file_at files.held name ≡ Some two_file → OpensInput files files name (input.Table two_rows)
  opens_the_two held = (
    two,
    record {
      bytes = two_file;
      whole = record { held = λ told. held; short = lit≤ tt };
      records = sym two_reads;
      parsed = two_parse;
    },
  )

  opens_no_file : IsMissing files.held name →
      OpensInput files files name (input.Missing (status.ReadFault role.Input))
  opens_no_file missing = inl (inl (refl, inr missing))

  opens_no_bytes : file_at files.held name ≡ Some [] →
      OpensInput files files name (input.Missing (status.Malformed instance.NoHeader))
  opens_no_bytes held = inr (
    instance.NoHeader,
    refl,
    record { bytes = []; whole = record { held = λ told. held; short = lit≤ tt }; refused = no_bytes },
  )

  -- ---- layout files
  gives_layout : file_at files.held name ≡ Some high_file → GivesLayout files name two_rows two 8 (0 ∷ 4 ∷ [])
  gives_layout held = record {
    bytes = high_file;
    whole = record { held = λ told. held; short = lit≤ tt };
    parsed = high_offsets;
    layout = (layout_exactly two 8 (0 ∷ 4 ∷ [])).0 apart_at_8;
  }

  gives_no_offsets : file_at files.held name ≡ Some short_file →
      GivesNoOffsets files name two_rows (status.Wrong (wrong.Offsets (offsets.MissingId 1)))
  gives_no_offsets held = record {
    bytes = short_file;
    fault = offsets.MissingId 1;
    told = refl;
    whole = record { held = λ told. held; short = lit≤ tt };
    refused = without_y;
  }

  judges_the_table : file_at files.held name ≡ Some low_file →
      JudgesTable files files name two_rows 10
      (judged.NoLayout (status.Wrong (wrong.Layout (layout.Overlap 0 1 4))))
  judges_the_table held = record {
    instance = two;
    parsed = two_parse;
    judged = inr (inr (record {
      bytes = low_file;
      offsets = 0 ∷ 2 ∷ [];
      fault = layout.Overlap 0 1 4;
      told = refl;
      whole = record { held = λ told. held; short = lit≤ tt };
      parsed = low_offsets;
      refused = overlap_at_4;
    }));
  }

  -- ---- files of logs
  module _ (bytes : List ℕ) (whole : IsWholeFile files role.Log name bytes) where
    accepts_sample : Says bytes (raw_log_of sample) → ChecksLog files files name evens (checked.Accepted sample)
    accepts_sample is = record {
      bytes = bytes;
      whole = whole;
      says = is;
      accepted = sample_is_accepted;
      infeasible = none_at_4;
    }

    refuses_forged : Says bytes forged → ChecksLog files files name evens
        (checked.Unaccepted (status.LogRefused (cause.Check (check.Illegal 0 reason.NotOver))))
    refuses_forged is = inr (inr (record {
      bytes = bytes;
      raw = forged;
      fault = check.Illegal 0 reason.NotOver;
      told = refl;
      whole = whole;
      says = is;
      refused = too_low;
    }))

  refuses_no_bytes : IsWholeFile files role.Log name [] →
      ChecksLog files files name evens (checked.Unaccepted (status.LogRefused (cause.Text text.NotLog)))
  refuses_no_bytes whole = inr (inl (record {
    bytes = [];
    fault = text.NotLog;
    told = refl;
    whole = whole;
    refused = no_header;
  }))
