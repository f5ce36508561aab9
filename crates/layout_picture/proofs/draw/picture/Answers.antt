use Rattle.std.proofs.Common.{◌≡◌, ℕ, List, [], ◌++◌, length, map, sym, ap, subst, ◌∙◌, arith}
use Rattle.dsa_terms.specs.Buffers.{Instance}
use Rattle.dsa_terms.specs.Plans.{load}
use Rattle.csv_instance.specs.Offsets.{ids_of}
use Rattle.layout_picture.specs.Columns.{columns_of}
use Rattle.layout_picture.specs.Rectangles.{rectangles}
use Rattle.layout_picture.specs.Texts.{head_text, picture_text}
use Rattle.layout_picture.specs.declared.rectangle.Rectangle.{Rectangle}
use Rattle.layout_picture.proofs.Putting.{then_put}
use Rattle.layout_picture.proofs.Whole.{few_loads, offsets_within, one_instance, scale_by, units, whole}
use Rattle.layout_picture.proofs.draw.picture.Goals as goal

pub rectangles-requires-clause-few : goal.rectangles-requires-clause-few
rectangles-requires-clause-few c = rw c.deref-2.ensures.value (let k = c.in_ok-columns.ensures.few in omega arith)

pub overflow_cast-scale : goal.overflow_cast-scale
overflow_cast-scale c = let k = c.in_ok-columns.ensures.few in omega arith

pub height-requires-clause-limit : goal.height-requires-clause-limit
height-requires-clause-limit c = offsets_within c.instance-instance.result.now c.args.offsets.now
    (c.requires c.instance-instance.result.now c.instance-instance.ensures.parsed)

pub put_plot-requires-clause-few : goal.put_plot-requires-clause-few
put_plot-requires-clause-few c =
    few_loads (load c.instance-instance.result.now) c.deref.result.now c.in_ok-columns.columns.items
    c.in_ok-loads.loads.items c.deref-5.result.now c.deref.ensures.value c.in_ok-columns.ensures.few
    c.in_ok-loads.ensures.value c.deref-5.ensures.value

pub put_frame-requires : goal.put_frame-requires
put_frame-requires c = rw c.deref-7.ensures.value (let k = c.in_ok-columns.ensures.few in omega arith)

pub returns-clause-text : goal.returns-clause-text
returns-clause-text c = λ I p.
    let J : Instance = c.instance-instance.result.now in
    let ids : List (List ℕ) = ids_of c.args.table.now in
    let n : c.len.result ≡ length (columns_of J) =
    (let e : c.len.result ≡ length c.in_ok-columns.columns.items = omega arith in e)
    ∙ ap (λ (xs : List ℕ). length xs) c.in_ok-columns.ensures.value in
    subst (λ (K : Instance). c.put.new.text.items ≡ picture_text K ids c.args.offsets.now)
    (one_instance J I _ c.instance-instance.ensures.parsed p)
    (whole J ids c.args.offsets.now c.deref-7.result.now c.deref-5.result.now c.deref-8.result.now c.deref-4.result.now
    c.deref-6.result.now (units c.len.result c.height.result) c.put.new.text.items
    (c.deref-7.ensures.value ∙ c.in_ok-columns.ensures.value)
    (c.deref-5.ensures.value ∙ c.in_ok-loads.ensures.value
    ∙ ap (λ (xs : List ℕ). map (load J) xs) (c.deref.ensures.value ∙ c.in_ok-columns.ensures.value))
    (c.deref-8.ensures.value ∙ sym c.deref-5.ensures.value)
    (c.deref-6.ensures.value ∙ c.in_ok-rectangles.ensures.value)
    (c.deref-4.ensures.value ∙ c.in_ok-colours.ensures.value)
    (scale_by _ _ _ _ n c.height.ensures)
    (then_put [] c.put_frame.new.text.items c.put.new.text.items _ _
    (then_put [] c.put_plot.new.text.items c.put_frame.new.text.items _ _
    (then_put [] c.put_head.new.text.items c.put_plot.new.text.items _ _
    (c.in_ok-put_head.ensures
    ∙ ap (λ (xs : List ℕ). xs ++ head_text (units c.len.result c.height.result)) c.new-text.ensures.items)
    c.in_ok-put_plot.ensures) c.in_ok-put_frame.ensures) c.in_ok-put.ensures))

pub returns-clause-count : goal.returns-clause-count
returns-clause-count c = λ I p.
    let J : Instance = c.instance-instance.result.now in
    let e : c.len-2.result ≡ length c.in_ok-rectangles.rectangles.items = omega arith in
    e ∙ ap (λ (xs : List Rectangle). length xs) c.in_ok-rectangles.ensures.value
    ∙ ap (λ (K : Instance). length (rectangles K c.args.offsets.now))
    (one_instance J I _ c.instance-instance.ensures.parsed p)
