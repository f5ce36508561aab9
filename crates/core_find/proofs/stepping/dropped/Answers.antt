use Rattle.std.proofs.Common.{◌≡◌, ◌∙◌, length}
use Rattle.core_find.proofs.Named.{names_stay, others_do_not_fit}
use Rattle.core_find.proofs.Steps.{before_stays, drop_looked, dropped_nearer}
use Rattle.core_find.proofs.stepping.dropped.Goals as goal

pub returns-clause-looking : goal.returns-clause-looking
returns-clause-looking c =
    let at = c.args.looking in
    let is_place : c.len-place.result ≡ length at.rests.items = c.len-place.ensures ∙ at.rests.ok.0 in
    λ I C h out.
    let named = names_stay I C at.members.items c.args.fewer.items at.named.items (length at.rests.items)
    c.requires.more c.requires.fewer out h.names in
    record {
      looked = drop_looked I C at.members.items c.args.fewer.items at.rests _ _ c.len-place.result is_place
          c.requires.more (rw is_place c.requires.fewer) (others_do_not_fit I C _ _ named) c.deref_mut.ensures.value
          c.leave_out.ensures h.looked;
      names = named;
      by_end = rw (c.unwrap_or.ensures, before_stays at.before at.members) h.by_end;
      log_rises = rw (c.unwrap_or.ensures, before_stays at.before at.members) h.log_rises;
      log_in_range = rw (c.unwrap_or.ensures, before_stays at.before at.members) h.log_in_range;
      log_of = rw (c.unwrap_or.ensures, before_stays at.before at.members) h.log_of;
    }

pub returns-clause-nearer : goal.returns-clause-nearer
returns-clause-nearer c =
    let at = c.args.looking in
    let is_place : c.len-place.result ≡ length at.rests.items = c.len-place.ensures ∙ at.rests.ok.0 in
    dropped_nearer at.members.items c.args.fewer.items at.rests _ c.leave_out.new.rests c.len-place.result is_place
    c.requires.more (rw is_place c.requires.fewer) c.deref_mut.ensures.value c.leave_out.ensures
