use Rattle.trace_import.proofs.Accepted.{accepted_fits, accepted_parses}
use Rattle.trace_import.proofs.ShortText.{accepted_short}
use Rattle.trace_import.proofs.laws.accepted_trace_is_imported.Goals as goal

pub returns-clause-within : goal.returns-clause-within
returns-clause-within c = accepted_fits

pub returns-clause-parsed : goal.returns-clause-parsed
returns-clause-parsed c = accepted_parses

pub returns-clause-short : goal.returns-clause-short
returns-clause-short c = accepted_short
