use Rattle.std.proofs.Common.{subst, ◌∙◌, ℕ, List}
use Rattle.lifetime.specs.SectionList.{count_of}
use Rattle.load_profile.specs.LoadProfile.{IsGreatestOf}
use Rattle.load_profile.proofs.Peaks.{is_peak}
use Rattle.load_profile.proofs.profile.Profile.build.Goals as goal

pub returns-clause-peak : goal.returns-clause-peak
returns-clause-peak c = is_peak c.args.instance.now c.args.sections.now c.requires c.len-buffers.ensures.buffers
    c.greatest-peak.result
    (subst (λ (loads : List ℕ). IsGreatestOf c.args.sections.now loads (count_of c.args.sections.now)
    c.greatest-peak.result)
    (c.deref.ensures.value ∙ c.in_ok-loads.ensures) c.greatest-peak.ensures)
