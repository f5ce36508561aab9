use Rattle.std.proofs.Common.{◌≡◌, ◌++◌, ℕ, length, ap, sym, ◌∙◌, append-nil, arith}
use Rattle.std.specs.List.{flat_map}
use Rattle.dsa_terms.specs.Parts.{numbers}
use Rattle.layout_picture.specs.Texts.{load_step}
use Rattle.layout_picture.proofs.Runs.{flat_more}
use Rattle.layout_picture.proofs.plot.put_steps.Goals as goal

pub loop-k-init : goal.loop-k-init
loop-k-init c = sym (append-nil c.args.text.now.items)

pub loop-k-preserved : goal.loop-k-preserved
loop-k-preserved c = flat_more (load_step c.args.scale.now c.args.loads.now) c.loop-k.k c.args.text.now.items
    c.loop-k.text.items c.put_step.new.text.items c.loop-k.invariant c.in_ok-put_step.ensures

pub returns : goal.returns
returns c =
    let e : c.loop-k.k ≡ length c.args.loads.now = omega arith in
    c.loop-k.invariant ∙ ap (λ (n : ℕ). c.args.text.now.items
    ++ flat_map (load_step c.args.scale.now c.args.loads.now) (numbers n)) e
