use Rattle.std.proofs.Common.{◌∙◌, length, ap, arith, refl, sym}
use Rattle.std.proofs.lemmas.List.FromFn.{length-range_with_len}
use Rattle.dsa_terms.specs.Claims.{Rises}
use Rattle.dsa_terms.proofs.Ranges.{rises-range}
use Rattle.dsa_model.specs.Chosen.{some_of}
use Rattle.core_find.proofs.Named.{ends_in_range, found_names}
use Rattle.core_find.proofs.Some.{some_of_all}
use Rattle.core_find.proofs.Steps.{at_first}
use Rattle.core_find.proofs.looking.start.Goals as goal

pub named_by-requires : goal.named_by-requires
named_by-requires c =
    let I = c.args.instance.now in
    let members = c.in_ok-members.members.items in
    ends_in_range I I members _ c.args.log (sym (ap (some_of I) c.in_ok-members.ensures ∙ some_of_all I))
    c.deref.ensures.value c.requires

pub returns-clause-looking : goal.returns-clause-looking
returns-clause-looking c =
    let I = c.args.instance.now in
    let members = c.in_ok-members.members.items in
    let rises : Rises members = rw c.in_ok-members.ensures (rises-range _ 0) in
    let found = found_names I I c.args.log.capacity members _ c.in_ok-named.named.items c.args.log
    (sym (ap (some_of I) c.in_ok-members.ensures ∙ some_of_all I)) c.deref.ensures.value rises
    c.len-count.ensures.buffers c.requires refl c.in_ok-named.ensures in
    let looked = at_first I c.args.log.capacity members c.new.result.items c.in_ok-members.ensures c.new.ensures.items
    in
    record {
      looked = looked;
      names = found.0;
      by_end = rw c.deref.ensures.value at c.in_ok-named.ensures;
      log_rises = rises;
      log_in_range = looked.in_range;
      log_of = found.1;
    }

pub returns-clause-ahead : goal.returns-clause-ahead
returns-clause-ahead c =
    let all = ap length c.in_ok-members.ensures in
    let none = ap length c.new.ensures.items in
    let n = length-range_with_len 0 (length c.args.instance.now) in
    omega (arith, all, none, n)
