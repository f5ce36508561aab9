use Rattle.std.proofs.Common.{ℕ, ◌+◌, codes, decimal, ap, ◌∙◌}
use Rattle.layout_picture.specs.Scale.{x_of}
use Rattle.layout_picture.specs.Texts.{attribute}
use Rattle.layout_picture.proofs.Putting.{put_same, then_put}
use Rattle.layout_picture.proofs.frame.put_head.Goals as goal

pub returns : goal.returns
returns c =
    then_put c.args.text.now.items c.put_number.new.text.items c.put-3.new.text.items _ _
    (then_put c.args.text.now.items c.put-2.new.text.items c.put_number.new.text.items _ _
    (then_put c.args.text.now.items c.put_attribute.new.text.items c.put-2.new.text.items _ _
    (then_put c.args.text.now.items c.put.new.text.items c.put_attribute.new.text.items _ _
    c.in_ok-put.ensures
    (put_same c.put.new.text.items c.put_attribute.new.text.items (attribute (codes "width")) _ _
    (ap (λ (n : ℕ). n + 72) (c.x-width.ensures.value ∙ ap (x_of c.args.scale.now) c.spans.ensures))
    c.in_ok-put_attribute.ensures))
    c.in_ok-put-2.ensures)
    (put_same c.put-2.new.text.items c.put_number.new.text.items decimal _ _
    (ap (λ (n : ℕ). n + 72) (c.x-width.ensures.value ∙ ap (x_of c.args.scale.now) c.spans.ensures))
    c.in_ok-put_number.ensures))
    c.in_ok-put-3.ensures
