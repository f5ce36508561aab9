use Rattle.std.proofs.Common.{map, string_bytes}
use Rattle.command_words.proofs.RequestLemmas.{request_without_fault}
use Rattle.command_words.proofs.read.read_words.Goals as goal

pub returns-clause-value : goal.returns-clause-value
returns-clause-value c =
    rw (c.in-Some.ensures.cases.0, c.new.ensures)
    (request_without_fault (string_bytes c.in-Some.name.now) (map string_bytes c.in-Some.words.now)
    c.in-Some-of.verb (cc) c.in_default-pairs_fault.ensures c.in_default-first_missing.ensures
    c.if-has_same_name.ensures)
