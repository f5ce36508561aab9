use Rattle.std.proofs.Common.{◌≤◌, ◌∙◌, ℕ, List, length, subst, arith}
use Rattle.dsa_terms.specs.Layouts.{IsInfeasible}
use Rattle.core_find.specs.Cores.{AreAmong}
use Rattle.core_find.specs.Found.{rests_of}
use Rattle.core_find.proofs.Looked.{all_looked}
use Rattle.core_find.proofs.find.core_of.Goals as goal

pub log_of-requires-clause-needs : goal.log_of-requires-clause-needs
log_of-requires-clause-needs g c =
    let h = c.loop-asker.invariant.looking in
    rw c.deref.ensures.value record {
      rise = h.log_rises;
      accepted = h.log_of.0;
      names = λ line end. subst (λ (xs : List ℕ). AreAmong xs c.loop-asker.looking.members.items) (h.by_end line end)
          h.names.among;
    }

pub returns-clause-explained : goal.returns-clause-explained
returns-clause-explained g c =
    let I = c.args.instance.now in
    let at = c.loop-asker.looking in
    let h = c.loop-asker.invariant.looking.looked in
    let none = subst (λ D. IsInfeasible I D) c.requires.at (c.refutes.ensures c.args.log c.requires.accepted) in
    let end : length at.members.items ≤ length at.rests.items =
    omega (
      arith,
      c.loop-asker-test.false,
      c.len.ensures,
      c.len-in-loop-asker.ensures,
      at.rests.ok.0,
      at.members.ok.0,
    ) in
    let all = all_looked I c.args.capacity at.members.items (rests_of at.rests.items) (length at.rests.items) end none
    h in
    record {
      core = all.0;
      rises = h.rises;
      in_range = h.in_range;
      accepted = rw (← c.deref.ensures.value) c.in_ok-log.ensures.accepted;
      capacity = c.in_ok-log.ensures.capacity ∙ c.loop-asker.invariant.looking.log_of.1;
      rests = all.1;
    }
