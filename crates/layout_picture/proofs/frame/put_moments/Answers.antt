use Rattle.std.proofs.Common.{◌≡◌, ◌++◌, ℕ, length, ap, sym, ◌∙◌, append-nil, arith}
use Rattle.std.specs.List.{flat_map}
use Rattle.dsa_terms.specs.Parts.{numbers}
use Rattle.layout_picture.specs.Texts.{moment_text}
use Rattle.layout_picture.proofs.Runs.{flat_more}
use Rattle.layout_picture.proofs.frame.put_moments.Goals as goal

pub loop-k-init : goal.loop-k-init
loop-k-init c = sym (append-nil c.args.text.now.items)

pub loop-k-preserved : goal.loop-k-preserved
loop-k-preserved c = flat_more (moment_text c.args.scale.now c.args.moments.now) c.loop-k.k c.args.text.now.items
    c.loop-k.text.items c.put_moment.new.text.items c.loop-k.invariant c.in_ok-put_moment.ensures

pub returns : goal.returns
returns c =
    let e : c.loop-k.k ≡ length c.args.moments.now = omega arith in
    c.loop-k.invariant ∙ ap (λ (n : ℕ). c.args.text.now.items
    ++ flat_map (moment_text c.args.scale.now c.args.moments.now) (numbers n)) e
