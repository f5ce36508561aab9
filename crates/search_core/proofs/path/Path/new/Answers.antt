use Rattle.std.proofs.Common.{◌∙◌, ap}
use Rattle.search_core.specs.Ways.{Way}
use Rattle.search_core.proofs.Keeping.{no_tries, way_of}
use Rattle.search_core.proofs.path.Path.new.Goals as goal

pub returns : goal.returns
returns c =
    let sky = c.args.sky in
    ap (way_of sky) c.new-kept.ensures.items
    ∙ ap (λ fs. let w : Way = record { sky = sky; frames = fs } in w) (no_tries sky.instance sky.claims)
