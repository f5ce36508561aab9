use Rattle.std.proofs.Common.{arith}
use Rattle.log_text.proofs.ReadLemmas.{cite_none, cite_read_below, cite_read_line, cite_read_twin}
use Rattle.log_text.proofs.items.read_cite.Goals as goal

pub returns-in-62-clause-some : goal.returns-in-62-clause-some
returns-in-62-clause-some c = cite_read_line _ _ _ _ _ c.in_ok-read.ensures.some c.in-62.is

pub returns-in-60-clause-some : goal.returns-in-60-clause-some
returns-in-60-clause-some c = cite_read_below _ _ _ _ _ c.in_ok-read.ensures.some c.in-60.is

pub returns-in-126-clause-some : goal.returns-in-126-clause-some
returns-in-126-clause-some c = cite_read_twin _ _ _ _ _ c.in_ok-read.ensures.some c.in-126.is

pub returns-in_default-clause-none : goal.returns-in_default-clause-none
returns-in_default-clause-none c = cite_none _ _ _ _ _ c.in_ok-read.ensures.some (λ e. omega arith)
    (λ e. omega arith) (λ e. omega arith)
