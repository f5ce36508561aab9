use Rattle.std.proofs.Common.{refl, ◌≡◌, ◌+◌, ◌-◌, ◌<◌, ◌^◌, ap, sym, subst, ◌∙◌, arith, slice_index, slice_index_or, slice_set, length, List, [], ℕ, true, map}
use Rattle.std.specs.List.{All}
use Rattle.std.specs.Vec.{with_items}
use Rattle.std.proofs.lemmas.List.{length-map, with_items_is}
use Rattle.dsa_terms.specs.Buffers.{Buffer, buffer}
use Rattle.dsa_terms.specs.Claims.{Rises}
use Rattle.dsa_model.specs.Lists.{items_of}
use Rattle.lifetime.specs.SectionList.{sections_of}
use Rattle.skyline.proofs.Bounds.{low_of_view}
use Rattle.skyline.specs.Places.{at_places, set_each}
use Rattle.skyline.specs.Skylines.{IsSkyline}
use Rattle.skyline.proofs.Steps.{popped_sky, popped_claims, row_is}
use Rattle.skyline.proofs.LoadSteps.{popped_loads}
use Rattle.skyline.proofs.Turns.{above_of_view, pop_of_view}
use Rattle.skyline.proofs.sky.Skyline.pop.Goals as goal

pub index-b-requires : goal.index-b-requires
index-b-requires c =
    let a = c.self.inside in
    let above = above_of_view _ _ _ _ _ _ _ _ _ _ _ c.self.view_is c.self.invariant c.requires in
    let i = c.self.invariant.sky in
    omega (arith, above, i.depth, i.stack_room, a.stack.ok.0)

pub sections_of-sections-requires : goal.sections_of-sections-requires
sections_of-sections-requires c =
    let f = pop_of_view _ _ _ _ _ _ _ _ _ _ _ c.index-b.result.now c.self.view_is c.self.invariant c.requires
    c.index-b.ensures in
    f.last.in_sections

pub index-requires : goal.index-requires
index-requires c =
    let a = c.self.inside in
    let f = pop_of_view _ _ _ _ _ _ _ _ _ _ _ c.index-b.result.now c.self.view_is c.self.invariant c.requires
    c.index-b.ensures in
    omega (arith, f.last.in_rows, length-map a.saved.items items_of, a.saved.ok.0)

pub restore-requires-clause-room : goal.restore-requires-clause-room
restore-requires-clause-room c =
    let a = c.self.inside in
    let f = pop_of_view _ _ _ _ _ _ _ _ _ _ _ c.index-b.result.now c.self.view_is c.self.invariant c.requires
    c.index-b.ensures in
    let lt : c.index-b.result.now < length a.saved.items =
    omega (arith, f.last.in_rows, length-map a.saved.items items_of) in
    ap length (c.deref.ensures.value ∙ sym (row_is a.saved.items c.index-b.result.now c.index.result.now lt
    c.index.ensures)) ∙ f.last.room ∙ ap length (sym c.sections_of-sections.ensures.value)

pub restore-requires-clause-in_range : goal.restore-requires-clause-in_range
restore-requires-clause-in_range c =
    let a = c.self.inside in
    let f = pop_of_view _ _ _ _ _ _ _ _ _ _ _ c.index-b.result.now c.self.view_is c.self.invariant c.requires
    c.index-b.ensures in
    subst (λ (x : List ℕ). All (λ s. s < length c.deref_mut.result.now) x) (sym c.sections_of-sections.ensures.value)
    (subst (λ (h : List ℕ). All (λ s. s < length h) (sections_of a.sections.now c.index-b.result.now))
    (sym c.deref_mut.ensures.value) f.last.sections)

pub index_mut-requires : goal.index_mut-requires
index_mut-requires c =
    let a = c.self.inside in
    let f = pop_of_view _ _ _ _ _ _ _ _ _ _ _ c.index-b.result.now c.self.view_is c.self.invariant c.requires
    c.index-b.ensures in
    omega (arith, f.last.in_flags, a.free.ok.0)

pub buffer-requires : goal.buffer-requires
buffer-requires c =
    let f = pop_of_view _ _ _ _ _ _ _ _ _ _ _ c.index-b.result.now c.self.view_is c.self.invariant c.requires
    c.index-b.ensures in
    f.loads.in_range

pub burden-requires-clause-rise : goal.burden-requires-clause-rise
burden-requires-clause-rise c =
    let f = pop_of_view _ _ _ _ _ _ _ _ _ _ _ c.index-b.result.now c.self.view_is c.self.invariant c.requires
    c.index-b.ensures in
    subst Rises (sym c.sections_of-sections.ensures.value) f.loads.rise

pub burden-requires-clause-in_range : goal.burden-requires-clause-in_range
burden-requires-clause-in_range c =
    let a = c.self.inside in
    let f = pop_of_view _ _ _ _ _ _ _ _ _ _ _ c.index-b.result.now c.self.view_is c.self.invariant c.requires
    c.index-b.ensures in
    subst (λ (x : List ℕ). All (λ s. s < length c.deref_mut-2.result.now) x) (sym c.sections_of-sections.ensures.value)
    (subst (λ (h : List ℕ). All (λ s. s < length h) (sections_of a.sections.now c.index-b.result.now))
    (sym c.deref_mut-2.ensures.value) f.loads.sections)

pub burden-requires-clause-room : goal.burden-requires-clause-room
burden-requires-clause-room c =
    let a = c.self.inside in
    let f = pop_of_view _ _ _ _ _ _ _ _ _ _ _ c.index-b.result.now c.self.view_is c.self.invariant c.requires
    c.index-b.ensures in
    let size : c.size-size.result ≡ (buffer a.instance.now c.index-b.result.now).size =
    c.size-size.ensures.value ∙ ap (λ (x : Buffer). x.size) c.buffer.ensures.value in
    subst (λ (t : ℕ). All (λ s. slice_index c.deref_mut-2.result.now s + t < 2 ^ 64) c.sections_of-sections.result.now)
    (sym size)
    (subst (λ (x : List ℕ). All (λ s. slice_index c.deref_mut-2.result.now s
    + (buffer a.instance.now c.index-b.result.now).size < 2 ^ 64) x) (sym c.sections_of-sections.ensures.value)
    (subst (λ (h : List ℕ). All (λ s. slice_index h s + (buffer a.instance.now c.index-b.result.now).size < 2 ^ 64)
    (sections_of a.sections.now c.index-b.result.now)) (sym c.deref_mut-2.ensures.value) f.loads.room))

pub invariant_of-self : goal.invariant_of-self
invariant_of-self c =
    let a = c.self.inside in
    let b = c.index-b.result.now in
    let f = pop_of_view _ _ _ _ _ _ _ _ _ _ _ c.index-b.result.now c.self.view_is c.self.invariant c.requires
    c.index-b.ensures in
    let lt : b < length a.saved.items = omega (arith, f.last.in_rows, length-map a.saved.items items_of) in
    let row = row_is a.saved.items b c.index.result.now lt c.index.ensures in
    let same : length c.restore.new.heights ≡ length c.deref_mut.result.now = c.restore.auto.heights in
    let count : length c.restore.new.heights ≡ a.heights.len =
    same ∙ ap length c.deref_mut.ensures.value ∙ sym a.heights.ok.0 in
    let back : (kept : List ℕ) →
    slice_index_or (map items_of a.saved.items) b [] ≡ at_places kept (sections_of a.sections.now b) →
    (with_items a.heights c.restore.new.heights).items ≡
    set_each (slice_index kept) (sections_of a.sections.now b) a.heights.items =
    λ kept e. with_items_is a.heights c.restore.new.heights count
    ∙ c.restore.ensures kept
    (c.deref.ensures.value ∙ sym row ∙ e ∙ ap (at_places kept) (sym c.sections_of-sections.ensures.value))
    ∙ ap (λ (x : List ℕ). set_each (slice_index kept) x c.deref_mut.result.now) c.sections_of-sections.ensures.value
    ∙ ap (set_each (slice_index kept) (sections_of a.sections.now b)) c.deref_mut.ensures.value in
    let size : c.size-size.result ≡ (buffer a.instance.now b).size =
    c.size-size.ensures.value ∙ ap (λ (x : Buffer). x.size) c.buffer.ensures.value in
    let heavier : c.burden.new.loads ≡ set_each (λ s. slice_index a.loads.items s + (buffer a.instance.now b).size)
    (sections_of a.sections.now b) a.loads.items =
    c.burden.ensures
    ∙ ap (λ (t : ℕ). set_each (λ s. slice_index c.deref_mut-2.result.now s + t) c.sections_of-sections.result.now
    c.deref_mut-2.result.now) size
    ∙ ap (λ (x : List ℕ). set_each (λ s. slice_index x s + (buffer a.instance.now b).size)
    c.sections_of-sections.result.now x) c.deref_mut-2.ensures.value
    ∙ ap (λ (x : List ℕ). set_each (λ s. slice_index a.loads.items s + (buffer a.instance.now b).size) x
    a.loads.items) c.sections_of-sections.ensures.value in
    let counted : length c.burden.new.loads ≡ a.loads.len =
    c.burden.auto.loads ∙ ap length c.deref_mut-2.ensures.value ∙ sym a.loads.ok.0 in
    record {
      sky =
          subst (λ (x : ℕ). IsSkyline a.instance.now a.sections.now a.members.items (a.depth - 1) a.stack.items
          a.ledges.items (with_items a.heights c.restore.new.heights).items (map items_of a.saved.items)
          (slice_set a.free.items x true)) (sym f.is)
          (popped_sky _ _ _ _ _ _ _ _ _ _ c.self.invariant.sky f.above
          (λ kept e. subst (λ (x : ℕ). (with_items a.heights c.restore.new.heights).items ≡
          set_each (slice_index kept) (sections_of a.sections.now x) a.heights.items) f.is
          (back kept (subst (λ (x : ℕ). slice_index_or (map items_of a.saved.items) x [] ≡
          at_places kept (sections_of a.sections.now x)) (sym f.is) e))));
      loads = popped_loads _ _ _ _ _ _ _ _ _ _ _ c.self.invariant f.above
          (subst (λ (x : ℕ). (with_items a.loads c.burden.new.loads).items ≡
          set_each (λ s. slice_index a.loads.items s + (buffer a.instance.now x).size) (sections_of a.sections.now x)
          a.loads.items) f.is
          (with_items_is a.loads c.burden.new.loads counted ∙ heavier));
    }

pub returns-clause-claims : goal.returns-clause-claims
returns-clause-claims c =
    let a = c.self.inside in
    let above = above_of_view _ _ _ _ _ _ _ _ _ _ _ c.self.view_is c.self.invariant c.requires in
    popped_claims _ a.sections.now a.members.items a.depth a.stack.items _ c.self.view_is above
    (let i = c.self.invariant.sky in omega (arith, i.depth, i.stack_room))

pub returns-clause-low : goal.returns-clause-low
returns-clause-low c = low_of_view _ _ _ _ _ _ _ _ _ _ refl (invariant_of-self c).sky
