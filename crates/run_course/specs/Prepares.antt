-- What stands before the first write, and what comes of reading and of writing.
use Rattle.std.specs.Prelude.{[], ◌∷◌}
use Rattle.command_words.specs.Options.{Word}
use Rattle.command_words.specs.declared.role.Role.{Role}
use Rattle.dsa_outside.specs.Seen.{FilesSeen}
use Rattle.run_course.specs.Readings.{IsWholeFile}
use Rattle.run_course.specs.Course.{Write, Outcome, IsUnreadable}
use Rattle.run_course.specs.declared.prepared.Writing.{Writing}
use Rattle.run_course.specs.declared.prepared.Prepared.{Prepared}
use Rattle.run_course.specs.declared.prepared.Prepared.TheVariants.{Silent, One, Both}
use Rattle.run_course.specs.declared.read.Content.{Content}
use Rattle.run_course.specs.declared.read.Content.TheVariants.{Bytes, Unreadable}

-- what a file to write stands for
abbrev pub write_of : Writing → Write
write_of file = record { role = file.role; name = file.name.now; bytes = file.bytes.items }

-- the outcome that is prepared
abbrev pub outcome_of : Prepared → Outcome
outcome_of (Silent said) = record { status = said.status; text = said.text.items; writes = [] }
outcome_of (One file said) =
    record { status = said.status; text = said.text.items; writes = write_of file ∷ [] }
outcome_of (Both first second said) =
    record { status = said.status; text = said.text.items; writes = write_of first ∷ write_of second ∷ [] }

-- the whole content, or why there is none
abbrev pub Opens : FilesSeen → FilesSeen → Role → Word → Content → Type 0
Opens old new role name (Bytes bytes) = IsWholeFile old role name bytes.items
Opens old new role name (Unreadable status) = IsUnreadable old new role name status
