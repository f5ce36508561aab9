use Rattle.std.proofs.Common.{sym, ◌∙◌}
use Rattle.layout_picture.specs.Texts.{label_text}
use Rattle.layout_picture.proofs.Putting.{label_not, label_put}
use Rattle.layout_picture.proofs.plot.put_label.Goals as goal

pub returns : goal.returns
unfolding label_text
returns c = label_put c.args.text.now.items c.put_id.new.text.items c.id-id.result.now _ c.area-area.result _
    c.id-id.ensures.value c.area-area.ensures.value (sym c.has_room.ensures ∙ c.if-not-has_room.false)
    c.in_ok-put_id.ensures

pub returns-then-not-has_room : goal.returns-then-not-has_room
unfolding label_text
returns-then-not-has_room c = label_not c.args.text.now.items c.id-id.result.now _ c.area-area.result _
    c.id-id.ensures.value c.area-area.ensures.value (sym c.has_room.ensures ∙ c.if-not-has_room.true)
