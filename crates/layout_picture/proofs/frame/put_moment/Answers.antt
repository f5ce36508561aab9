use Rattle.std.proofs.Common.{codes, decimal, sym, ◌∙◌, refl}
use Rattle.layout_picture.specs.Texts.{attribute, is_marked, moment_text}
use Rattle.layout_picture.proofs.Putting.{put_if, put_not, put_same, then_put}
use Rattle.layout_picture.proofs.frame.put_moment.Goals as goal

pub returns : goal.returns
unfolding moment_text
returns c = put_if c.args.text.now.items c.put-4.new.text.items _ (is_marked c.args.scale.now c.args.k)
    (sym c.is_marked.ensures ∙ c.if-not-is_marked.false)
    (then_put c.args.text.now.items c.put_number-2.new.text.items c.put-4.new.text.items _ _
    (then_put c.args.text.now.items c.put-3.new.text.items c.put_number-2.new.text.items _ _
    (then_put c.args.text.now.items c.put_attribute.new.text.items c.put-3.new.text.items _ _
    (then_put c.args.text.now.items c.put-2.new.text.items c.put_attribute.new.text.items _ _
    (then_put c.args.text.now.items c.put_number.new.text.items c.put-2.new.text.items _ _
    (then_put c.args.text.now.items c.put.new.text.items c.put_number.new.text.items _ _ c.in_ok-put.ensures
    (put_same c.put.new.text.items c.put_number.new.text.items decimal _ _ c.x-x.ensures.value
    c.in_ok-put_number.ensures))
    c.in_ok-put-2.ensures)
    (put_same c.put-2.new.text.items c.put_attribute.new.text.items (attribute (codes "x")) _ _ c.x-x.ensures.value
    c.in_ok-put_attribute.ensures))
    c.in_ok-put-3.ensures) c.in_ok-put_number-2.ensures) c.in_ok-put-4.ensures)

pub returns-then-not-is_marked : goal.returns-then-not-is_marked
unfolding moment_text
returns-then-not-is_marked c = put_not c.args.text.now.items c.args.text.now.items _
    (is_marked c.args.scale.now c.args.k)
    (sym c.is_marked.ensures ∙ c.if-not-is_marked.true) refl
