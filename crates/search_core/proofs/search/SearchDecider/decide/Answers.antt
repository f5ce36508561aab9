use Rattle.std.proofs.Common.{◌≡◌, ap}
use Rattle.dsa_model.proofs.Instances.{sound_instance}
use Rattle.refute_log.proofs.Settling.{right_settles}
use Rattle.search_core.specs.Courses.{Course}
use Rattle.search_core.proofs.Charging.{is_charged}
use Rattle.search_core.proofs.Deciding.{is_right}
use Rattle.search_core.proofs.search.SearchDecider.decide.Goals.{in-Spent, in_default}
use Rattle.search_core.proofs.search.SearchDecider.decide.Goals as goal

pub returns-clause-right : goal.returns-clause-right
returns-clause-right c =
    let subject = ap (λ (v : Course). v.subject) c.self.view_is in
    rw (← subject) (is_right _ _ _ c.len-count.ensures.buffers c.in_ok-decided.ensures.decided)

pub returns-clause-settles : goal.returns-clause-settles
returns-clause-settles c =
    let subject = ap (λ (v : Course). v.subject) c.self.view_is in
    rw (← subject) (right_settles c.self.inside.instance.now c.args.capacity c.in_ok-decided.decided
    (sound_instance c.self.inside.instance.now c.len-count.ensures.buffers) (is_right _ _ _ c.len-count.ensures.buffers
    c.in_ok-decided.ensures.decided))

pub returns-clause-charged : goal.returns-clause-charged
returns-clause-charged c =
    let subject = ap (λ (v : Course). v.subject) c.self.view_is in
    let units = ap (λ (v : Course). v.units) c.self.view_is in
    let charged = is_charged c.self.inside.instance.now c.self.inside.meter c.search_parts.new.meter
    c.in_ok-decided.decided c.search_parts.ensures.units c.in_ok-decided.ensures.taken
    c.in_ok-decided.ensures.counted in
    let after : c.match-decided.self.units ≡ c.search_parts.new.meter = elim c.match-decided.branch [
      | in-Spent w ↦ ap (λ (v : Course). v.units) w.self-is
      | in_default w ↦ ap (λ (v : Course). v.units) w.self-is
    ] in
    rw (← subject, ← units, after) charged
