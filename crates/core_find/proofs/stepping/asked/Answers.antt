use Rattle.std.proofs.Common.{◌≡◌, ◌∙◌, ◌<◌, length, sym, ap, subst, arith}
use Rattle.std.specs.List.{remove}
use Rattle.dsa_terms.specs.Buffers.{Instance}
use Rattle.dsa_terms.specs.Claims.{Rises}
use Rattle.dsa_terms.specs.Layouts.{IsLayout}
use Rattle.dsa_model.specs.Chosen.{some_of}
use Rattle.core_find.proofs.Named.{ends_in_range, found_names, others_do_not_fit}
use Rattle.core_find.proofs.Removed.{all_removed, rises_removed}
use Rattle.core_find.proofs.Steps.{drop_looked, dropped_nearer, kept_step, step_has_place}
use Rattle.core_find.proofs.stepping.asked.Goals as goal

-- ---- the others as an instance
pub sub_instance-requires-clause-rises : goal.sub_instance-requires-clause-rises
sub_instance-requires-clause-rises g c =
    let at = c.args.looking in
    rw (c.deref.ensures.value, c.requires.fewer)
    (rises_removed at.members.items (length at.rests.items) c.requires.more c.requires.looking.looked.rises)

pub sub_instance-requires-clause-in_range : goal.sub_instance-requires-clause-in_range
sub_instance-requires-clause-in_range g c =
    let at = c.args.looking in
    rw (c.deref.ensures.value, c.requires.fewer)
    (all_removed (λ b. b < length c.args.instance.now) at.members.items (length at.rests.items) c.requires.more
    c.requires.looking.looked.in_range)

-- ---- they fit
pub returns-in_ok-push-in-Layout-clause-looking : goal.returns-in_ok-push-in-Layout-clause-looking
returns-in_ok-push-in-Layout-clause-looking g c =
    let I = c.args.instance.now in
    let C = c.args.capacity in
    let at = c.args.looking in
    let some : c.in_ok-some.some ≡ some_of I c.args.fewer.items =
    c.in_ok-some.ensures.value ∙ ap (some_of I) c.deref.ensures.value in
    let answer = rw c.in-Layout.is at c.in_ok-rest.ensures.right in
    record {
      looked = kept_step I C at.members.items c.args.fewer.items at.rests.items _ c.in-Layout.rest
          c.requires.more c.requires.fewer (subst (λ (J : Instance). IsLayout J C c.in-Layout.rest.items) some answer)
          c.in_ok-push-in-Layout.ensures.items c.requires.looking.looked;
      names = c.requires.looking.names;
      by_end = c.requires.looking.by_end;
      log_rises = c.requires.looking.log_rises;
      log_in_range = c.requires.looking.log_in_range;
      log_of = c.requires.looking.log_of;
    }

-- ---- they do not fit
pub leave_out-requires-clause-there : goal.leave_out-requires-clause-there
leave_out-requires-clause-there g c =
    rw c.deref_mut.ensures.value
    (step_has_place c.args.instance.now c.args.capacity c.args.looking.members.items c.args.looking.rests.items
    c.len-place.result (c.len-place.ensures ∙ c.args.looking.rests.ok.0) c.requires.more c.requires.looking.looked)

pub named_by-requires : goal.named_by-requires
named_by-requires g c =
    let answer = rw c.in-Refuted.is at c.in_ok-rest.ensures.right in
    ends_in_range c.args.instance.now c.in_ok-some.some c.args.fewer.items _ c.in-Refuted.smaller
    (c.in_ok-some.ensures.value ∙ ap (some_of c.args.instance.now) c.deref.ensures.value)
    c.deref-in-Refuted.ensures.value answer.0

pub returns-in_ok-named-in-Refuted-clause-looking : goal.returns-in_ok-named-in-Refuted-clause-looking
returns-in_ok-named-in-Refuted-clause-looking g c =
    let I = c.args.instance.now in
    let C = c.args.capacity in
    let at = c.args.looking in
    let place = c.len-place.result in
    let is_place : place ≡ length at.rests.items = c.len-place.ensures ∙ at.rests.ok.0 in
    let within : place < length at.members.items = (let m = c.requires.more in omega (arith, is_place, m)) in
    let few : c.args.fewer.items ≡ remove at.members.items place =
    c.requires.fewer ∙ ap (remove at.members.items) (sym is_place) in
    let some : c.in_ok-some.some ≡ some_of I c.args.fewer.items =
    c.in_ok-some.ensures.value ∙ ap (some_of I) c.deref.ensures.value in
    let answer = rw c.in-Refuted.is at c.in_ok-rest.ensures.right in
    let rises : Rises c.args.fewer.items =
    rw few (rises_removed at.members.items place within c.requires.looking.looked.rises) in
    let found = found_names I c.in_ok-some.some C c.args.fewer.items _ c.in_ok-named-in-Refuted.named.items
    c.in-Refuted.smaller some c.deref-in-Refuted.ensures.value rises c.len-count.ensures.buffers answer.0 answer.1
    c.in_ok-named-in-Refuted.ensures in
    let looked = drop_looked I C at.members.items c.args.fewer.items at.rests _ _ place is_place c.requires.more
    few (others_do_not_fit I C _ _ found.0) c.deref_mut.ensures.value c.leave_out.ensures c.requires.looking.looked in
    record {
      looked = looked;
      names = found.0;
      by_end = rw c.deref-in-Refuted.ensures.value at c.in_ok-named-in-Refuted.ensures;
      log_rises = rises;
      log_in_range = looked.in_range;
      log_of = found.1;
    }

pub returns-in_ok-named-in-Refuted-clause-nearer : goal.returns-in_ok-named-in-Refuted-clause-nearer
returns-in_ok-named-in-Refuted-clause-nearer g c =
    let at = c.args.looking in
    dropped_nearer at.members.items c.args.fewer.items at.rests _ c.leave_out.new.rests
    c.len-place.result (c.len-place.ensures ∙ at.rests.ok.0) c.requires.more
    (c.requires.fewer ∙ ap (remove at.members.items) (sym (c.len-place.ensures ∙ at.rests.ok.0)))
    c.deref_mut.ensures.value c.leave_out.ensures
