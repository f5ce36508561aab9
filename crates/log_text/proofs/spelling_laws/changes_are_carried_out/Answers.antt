use Rattle.log_text.proofs.Differences.{carried_difference, carried_entries}
use Rattle.log_text.proofs.spelling_laws.changes_are_carried_out.Goals as goal

pub returns : goal.returns
returns c = record { entries = carried_entries; back = carried_difference }
