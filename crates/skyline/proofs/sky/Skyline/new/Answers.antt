use Rattle.std.proofs.Common.{Bool, ◌≡◌, ap, sym, subst, ◌∙◌, arith, ℕ, false, length, List, replicate, slice_index_or, rules, map}
use Rattle.std.specs.List.{filter, sum_by}
use Rattle.dsa_terms.specs.Buffers.{buffer}
use Rattle.lifetime.specs.SectionList.{count_of, members_of}
use Rattle.dsa_terms.specs.Parts.{whole}
use Rattle.dsa_model.specs.Lists.{items_of}
use Rattle.skyline.specs.Loads.{HasLoads}
use Rattle.skyline.specs.Skylines.{IsSkyline}
use Rattle.skyline.proofs.Loads.{first_has_loads}
use Rattle.skyline.proofs.Marks.{new_sky}
use Rattle.skyline.proofs.sky.Skyline.new.Goals as goal

pub invariant_of-result : goal.invariant_of-result
invariant_of-result c =
    let I = c.args.instance.now in
    let S = c.args.sections.now in
    let ms = c.args.members.now in
    let l = c.len-count.ensures in
    let copied : c.in_ok-members.members.items ≡ c.args.members.now = c.in_ok-members.ensures.items_if_clones_equal
    (search rules) in
    let heights : c.in_ok-heights.heights.items ≡ replicate (count_of S) 0 =
    c.in_ok-heights.ensures.items_if_clones_equal (search rules) ∙ ap (λ n. replicate n 0) c.count.ensures.value in
    let stack : length c.in_ok-stack.stack.items ≡ length c.args.members.now = omega (
      arith,
      c.in_ok-stack.stack.ok.0,
      c.in_ok-stack.ensures.len,
    ) in
    let ledges : length c.in_ok-ledges.ledges.items ≡ length c.args.members.now =
    omega (arith, c.in_ok-ledges.ledges.ok.0, c.in_ok-ledges.ensures.len) in
    record {
      sky =
          subst (λ (m : List ℕ). IsSkyline I S m 0 c.in_ok-stack.stack.items c.in_ok-ledges.ledges.items
          c.in_ok-heights.heights.items (map items_of c.in_ok-saved.saved.items) c.in_ok-free.free.items)
          (sym copied)
          (new_sky I S ms c.in_ok-stack.stack.items c.in_ok-ledges.ledges.items c.in_ok-heights.heights.items
          c.in_ok-saved.saved.items c.in_ok-free.free.items
          l.buffers l.limit c.requires.sections c.requires.in_range c.requires.rises stack ledges heights
          (c.in_ok-saved.ensures.count ∙ ap length c.deref.ensures.value ∙ c.in_ok-free.ensures.count ∙ l.value)
          (λ b d lt t. c.in_ok-saved.ensures.rooms b d
          (omega (arith, l.value, lt, c.in_ok-free.ensures.count, ap length c.deref.ensures.value))
          (ap (λ (f : List Bool). slice_index_or f b false) c.deref.ensures.value ∙ t))
          (c.in_ok-free.ensures.count ∙ l.value)
          (λ b lt. c.in_ok-free.ensures.marks b (omega (arith, l.value, lt))));
      loads =
          subst (λ (m : List ℕ). HasLoads I S (whole I m) c.in_ok-loads.loads.items) (sym copied)
          (first_has_loads I S ms c.in_ok-loads.loads.items c.in_ok-free.free.items c.requires.sections
          c.in_ok-loads.ensures.count
          (λ s lt. c.in_ok-loads.ensures.loads s lt
          ∙ ap (λ (f : List Bool). sum_by (λ b. (buffer I b).size) (filter (λ b. slice_index_or f b false)
          (members_of S s))) c.deref-2.ensures.value)
          (λ b lt. c.in_ok-free.ensures.marks b (omega (arith, l.value, lt))));
    }
