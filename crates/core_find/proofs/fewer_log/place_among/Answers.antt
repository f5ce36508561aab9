use Rattle.std.proofs.Common.{◌∙◌, sym}
use Rattle.core_find.proofs.Carrying.{found_place, no_place}
use Rattle.core_find.proofs.fewer_log.place_among.Goals as goal

pub returns-in-Some : goal.returns-in-Some
returns-in-Some c =
    found_place c.args.b c.args.members.now c.in-Some.place (sym c.in-Some.is ∙ c.find_place.ensures)

pub returns-in-None : goal.returns-in-None
returns-in-None c = no_place c.args.b c.args.members.now (sym c.in-None.is ∙ c.find_place.ensures)
