use Rattle.std.proofs.Common.{ℕ, List, [], slice_index_or}
use Rattle.dsa_terms.specs.Buffers.{Buffer}
use Rattle.csv_instance.specs.Offsets.{ids_of}
use Rattle.layout_picture.specs.Texts.{area_text, rectangle_text, title_text}
use Rattle.layout_picture.proofs.Putting.{put_same, then_put}
use Rattle.layout_picture.proofs.plot.put_rectangle.Goals as goal

pub returns : goal.returns
unfolding rectangle_text
returns c =
    then_put c.args.text.now.items c.put_title.new.text.items c.put-5.new.text.items _ _
    (then_put c.args.text.now.items c.put-4.new.text.items c.put_title.new.text.items _ _
    (then_put c.args.text.now.items c.put-3.new.text.items c.put-4.new.text.items _ _
    (then_put c.args.text.now.items c.put-2.new.text.items c.put-3.new.text.items _ _
    (then_put c.args.text.now.items c.put_area.new.text.items c.put-2.new.text.items _ _
    (then_put c.args.text.now.items c.put.new.text.items c.put_area.new.text.items _ _
    c.in_ok-put.ensures
    (put_same c.put.new.text.items c.put_area.new.text.items area_text _ _ c.area.ensures.value
    c.in_ok-put_area.ensures))
    c.in_ok-put-2.ensures)
    (put_same c.put-2.new.text.items c.put-3.new.text.items
    (λ (xs : List ℕ). xs) _ _ c.colour_digits.ensures c.in_ok-put-3.ensures))
    c.in_ok-put-4.ensures)
    (put_same c.put-4.new.text.items c.put_title.new.text.items
    (λ (x : Buffer). title_text (slice_index_or (ids_of c.args.table.now) c.args.rectangle.now.buffer []) x
    c.args.rectangle.now.place) _ _ c.buffer.ensures.value
    (put_same c.put-4.new.text.items c.put_title.new.text.items
    (λ (id : List ℕ). title_text id c.buffer.result.now c.args.rectangle.now.place) _ _ c.id.ensures.value
    c.in_ok-put_title.ensures)))
    c.in_ok-put-5.ensures
