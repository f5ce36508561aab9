-- What stands before the first write, and what reading a file comes to.
use Rattle.std.proofs.Common.{◌≡◌, ◌∙◌, ℕ, Some, Vec, Global, inl, inr, codes, refl, sym, ap, lit≤}
use Rattle.dsa_outside.specs.Held.{IsMissing, file_at}
use Rattle.dsa_outside.specs.Seen.{FilesSeen}
use Rattle.command_words.specs.Options.{Word}
use Rattle.command_words.specs.declared.role.Role.TheVariants as role
use Rattle.run_status.specs.declared.status.Status.TheVariants as status
use Rattle.run_course.specs.Course.{shows}
use Rattle.run_course.specs.Prepares.{Opens, outcome_of}
use Rattle.run_course.specs.declared.prepared.Prepared.TheVariants.{Silent}
use Rattle.run_course.specs.declared.read.Content.TheVariants.{Bytes, Unreadable}

module _ (bytes : Vec ℕ Global) where
  a_report : outcome_of (Silent (record { status = status.Shown; text = bytes })) ≡ shows bytes.items
  a_report = refl

  opens : (files : FilesSeen) (name : Word) → file_at files.held name ≡ Some (codes "ab") → bytes.items ≡ codes "ab" →
      Opens files files role.Input name (Bytes bytes)
  opens files name held is = record { held = λ told. held ∙ ap Some (sym is); short = rw is (lit≤ tt) }

opens_none : (files : FilesSeen) (name : Word) → IsMissing files.held name →
    Opens files files role.Log name (Unreadable (status.ReadFault role.Log))
opens_none files name missing = inl (refl, inr missing)
