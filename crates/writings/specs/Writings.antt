-- The files that commands write.
use Rattle.std.specs.Prelude.{ℕ, List}
use Rattle.dsa_terms.specs.Logs.{Log}
use Rattle.csv_instance.specs.Records.{Record}
use Rattle.csv_instance.specs.Layout.{layout_text}
use Rattle.log_text.specs.RawTexts.{IsTextOf}
use Rattle.log_text.specs.Text.{log_text, raw_log_of}
use Rattle.command_words.specs.Options.{Word}
use Rattle.command_words.specs.declared.role.Role.TheVariants as role
use Rattle.run_course.specs.Course.{Write}

-- the names of the files of a command that decides: its input, its output, and the log's file
pub record Names : Type 0 where
  pub input : Word
  pub output : Word
  pub log : Word

-- the layout of these offsets, for the output
abbrev pub layout_file : Word → List Record → List ℕ → Write
layout_file output table offsets = record { role = role.Output; name = output; bytes = layout_text table offsets }

-- the log, for its file
abbrev pub log_file : Word → Log → Write
log_file name log = record { role = role.Log; name = name; bytes = log_text log }

-- the text of the log reads back
abbrev pub ReadsBack : Log → Type 0
ReadsBack log = IsTextOf (log_text log) (raw_log_of log)
