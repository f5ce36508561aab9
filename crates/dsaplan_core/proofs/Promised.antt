-- What a status promises of the files: the headline, what is judged, and what is derived.
use Rattle.std.proofs.Common.{List}
use Rattle.dsa_outside.specs.Seen.{FilesSeen}
use Rattle.command_words.specs.Options.{Word}
use Rattle.run_status.specs.declared.status.Status.{Status}
use Rattle.run_status.specs.declared.status.Status.TheVariants as status
use Rattle.dsaplan_core.specs.Theorem.{Headline}
use Rattle.dsaplan_core.specs.Judged.{Judged}
use Rattle.dsaplan_core.specs.Derived.{Derived}

-- that of the statuses of what is judged or derived, and else the headline
abbrev pub Promised : List Word → FilesSeen → FilesSeen → Status → Type 0
Promised words old new status.Right = Judged words old new status.Right
Promised words old new (status.Accepted C) = Judged words old new (status.Accepted C)
Promised words old new (status.Trimmed before after) = Judged words old new (status.Trimmed before after)
Promised words old new (status.Upgraded lines) = Judged words old new (status.Upgraded lines)
Promised words old new (status.Drawn count) = Judged words old new (status.Drawn count)
Promised words old new (status.Imported count) = Derived words old new (status.Imported count)
Promised words old new (status.TraceRefused fault) = Derived words old new (status.TraceRefused fault)
Promised words old new (status.Unrolled count) = Derived words old new (status.Unrolled count)
Promised words old new (status.CycleRefused fault) = Derived words old new (status.CycleRefused fault)
Promised words old new (status.Classed height load) = Derived words old new (status.Classed height load)
Promised words old new (status.NotPlain b) = Derived words old new (status.NotPlain b)
Promised words old new (status.Core count) = Derived words old new (status.Core count)
Promised words old new (status.NoCore C) = Derived words old new (status.NoCore C)
Promised words old new s = Headline words old new s

module _ (words : List Word) (old new : FilesSeen) where
  pub to_headline : (s : Status) → Promised words old new s → Headline words old new s
  to_headline status.Right promised = tt
  to_headline (status.Accepted C) promised = tt
  to_headline (status.Trimmed before after) promised = tt
  to_headline (status.Upgraded lines) promised = tt
  to_headline (status.Drawn count) promised = tt
  to_headline (status.Imported count) promised = tt
  to_headline (status.TraceRefused fault) promised = tt
  to_headline (status.Unrolled count) promised = tt
  to_headline (status.CycleRefused fault) promised = tt
  to_headline (status.Classed height load) promised = tt
  to_headline (status.NotPlain b) promised = tt
  to_headline (status.Core count) promised = tt
  to_headline (status.NoCore C) promised = tt
  to_headline s promised = promised

  pub to_judged : (s : Status) → Promised words old new s → Judged words old new s
  to_judged status.Right promised = promised
  to_judged (status.Accepted C) promised = promised
  to_judged (status.Trimmed before after) promised = promised
  to_judged (status.Upgraded lines) promised = promised
  to_judged (status.Drawn count) promised = promised
  to_judged (status.Imported count) promised = tt
  to_judged (status.TraceRefused fault) promised = tt
  to_judged (status.Unrolled count) promised = tt
  to_judged (status.CycleRefused fault) promised = tt
  to_judged (status.Classed height load) promised = tt
  to_judged (status.NotPlain b) promised = tt
  to_judged (status.Core count) promised = tt
  to_judged (status.NoCore C) promised = tt
  to_judged s promised = tt

  pub to_derived : (s : Status) → Promised words old new s → Derived words old new s
  to_derived status.Right promised = tt
  to_derived (status.Accepted C) promised = tt
  to_derived (status.Trimmed before after) promised = tt
  to_derived (status.Upgraded lines) promised = tt
  to_derived (status.Drawn count) promised = tt
  to_derived (status.Imported count) promised = promised
  to_derived (status.TraceRefused fault) promised = promised
  to_derived (status.Unrolled count) promised = promised
  to_derived (status.CycleRefused fault) promised = promised
  to_derived (status.Classed height load) promised = promised
  to_derived (status.NotPlain b) promised = promised
  to_derived (status.Core count) promised = promised
  to_derived (status.NoCore C) promised = promised
  to_derived s promised = tt
