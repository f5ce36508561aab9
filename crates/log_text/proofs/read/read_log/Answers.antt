use Rattle.log_text.proofs.LogLemmas.{is_cause, is_complete, is_kept}
use Rattle.log_text.proofs.read.read_log.Goals as goal

pub returns : goal.returns
returns c = record {
  sound = c.read_text.ensures;
  complete = is_complete _ _ c.read_text.ensures;
  cause = is_cause _ _ c.read_text.ensures;
  kept = is_kept _ _ c.read_text.ensures;
}
