use Rattle.std.proofs.Common.{refl, ◌≡◌, ◌+◌, ◌≤◌, ◌<◌, ap, sym, subst, ◌∙◌, arith, slice_index, slice_set, length, List, ℕ, reverse, take, ◌-◌, false}
use Rattle.std.specs.List.{All}
use Rattle.std.proofs.lemmas.List.{map-set, length-map, with_items_is}
use Rattle.std.specs.Vec.{with_items}
use Rattle.dsa_terms.specs.Buffers.{Buffer, buffer}
use Rattle.dsa_terms.specs.Claims.{Rises}
use Rattle.dsa_terms.specs.Parts.{whole}
use Rattle.dsa_model.specs.Lists.{items_of}
use Rattle.lifetime.specs.SectionList.{sections_of}
use Rattle.skyline.specs.Places.{at_places, set_each}
use Rattle.skyline.specs.Skylines.{IsSkyline}
use Rattle.skyline.specs.Standing.{offset_after}
use Rattle.skyline.proofs.Bounds.{low_of_view}
use Rattle.skyline.proofs.Places.{length-set_each}
use Rattle.skyline.proofs.Lefts.{up_of_view}
use Rattle.skyline.proofs.LoadSteps.{pushed_loads}
use Rattle.skyline.proofs.Steps.{pushed_sky, pushed_claims, row_is}
use Rattle.skyline.proofs.Turns.{push_of_view}
use Rattle.skyline.proofs.sky.Skyline.push.Goals as goal

pub buffer-requires : goal.buffer-requires
buffer-requires c =
    (push_of_view _ _ _ _ _ _ _ _ _ _ _ c.args.b c.self.view_is c.self.invariant c.requires).low.in_range

pub sections_of-sections-requires : goal.sections_of-sections-requires
sections_of-sections-requires c =
    (push_of_view _ _ _ _ _ _ _ _ _ _ _ c.args.b c.self.view_is c.self.invariant c.requires).low.in_sections

pub index_mut-row-requires : goal.index_mut-row-requires
index_mut-row-requires c =
    let a = c.self.inside in
    let f = push_of_view _ _ _ _ _ _ _ _ _ _ _ c.args.b c.self.view_is c.self.invariant c.requires in
    let n = c.self.invariant.sky.carries.saved_count in
    omega (arith, f.low.in_range, n, length-map a.saved.items items_of, a.saved.ok.0)

pub save-requires-clause-room : goal.save-requires-clause-room
save-requires-clause-room c =
    let a = c.self.inside in
    let f = push_of_view _ _ _ _ _ _ _ _ _ _ _ c.args.b c.self.view_is c.self.invariant c.requires in
    let n = c.self.invariant.sky.carries.saved_count in
    let lt : c.args.b < length a.saved.items =
    omega (arith, f.low.in_range, n, length-map a.saved.items items_of) in
    ap length (c.deref_mut.ensures.value
    ∙ sym (row_is a.saved.items c.args.b c.index_mut-row.result.now lt c.index_mut-row.ensures.value))
    ∙ c.self.invariant.sky.carries.saved_room c.args.b f.low.in_range f.member
    ∙ ap length (sym c.sections_of-sections.ensures.value)

pub save-requires-clause-in_range : goal.save-requires-clause-in_range
save-requires-clause-in_range c =
    let a = c.self.inside in
    let f = push_of_view _ _ _ _ _ _ _ _ _ _ _ c.args.b c.self.view_is c.self.invariant c.requires in
    subst (λ (x : List ℕ). All (λ s. s < length c.deref.result.now) x) (sym c.sections_of-sections.ensures.value)
    (subst (λ (h : List ℕ). All (λ s. s < length h) (sections_of a.sections.now c.args.b)) (sym c.deref.ensures.value)
    f.low.sections)

pub raise-requires : goal.raise-requires
raise-requires c =
    let a = c.self.inside in
    let f = push_of_view _ _ _ _ _ _ _ _ _ _ _ c.args.b c.self.view_is c.self.invariant c.requires in
    subst (λ (x : List ℕ). All (λ s. s < length c.deref_mut-2.result.now) x) (sym c.sections_of-sections.ensures.value)
    (subst (λ (h : List ℕ). All (λ s. s < length h) (sections_of a.sections.now c.args.b))
    (sym c.deref_mut-2.ensures.value) f.low.sections)

pub lighten-requires-clause-rise : goal.lighten-requires-clause-rise
lighten-requires-clause-rise c =
    let f = push_of_view _ _ _ _ _ _ _ _ _ _ _ c.args.b c.self.view_is c.self.invariant c.requires in
    subst Rises (sym c.sections_of-sections.ensures.value) f.loads.rise

pub lighten-requires-clause-in_range : goal.lighten-requires-clause-in_range
lighten-requires-clause-in_range c =
    let a = c.self.inside in
    let f = push_of_view _ _ _ _ _ _ _ _ _ _ _ c.args.b c.self.view_is c.self.invariant c.requires in
    subst (λ (x : List ℕ). All (λ s. s < length c.deref_mut-3.result.now) x) (sym c.sections_of-sections.ensures.value)
    (subst (λ (h : List ℕ). All (λ s. s < length h) (sections_of a.sections.now c.args.b))
    (sym c.deref_mut-3.ensures.value) f.loads.sections)

pub lighten-requires-clause-enough : goal.lighten-requires-clause-enough
lighten-requires-clause-enough c =
    let a = c.self.inside in
    let f = push_of_view _ _ _ _ _ _ _ _ _ _ _ c.args.b c.self.view_is c.self.invariant c.requires in
    let size : c.size-size.result ≡ (buffer a.instance.now c.args.b).size =
    c.size-size.ensures.value ∙ ap (λ (x : Buffer). x.size) c.buffer.ensures.value in
    subst (λ (t : ℕ). All (λ s. t ≤ slice_index c.deref_mut-3.result.now s) c.sections_of-sections.result.now)
    (sym size)
    (subst (λ (x : List ℕ). All (λ s. (buffer a.instance.now c.args.b).size ≤ slice_index c.deref_mut-3.result.now s) x)
    (sym c.sections_of-sections.ensures.value)
    (subst (λ (h : List ℕ). All (λ s. (buffer a.instance.now c.args.b).size ≤ slice_index h s)
    (sections_of a.sections.now c.args.b)) (sym c.deref_mut-3.ensures.value) f.loads.enough))

pub index_mut-requires : goal.index_mut-requires
index_mut-requires c =
    let f = push_of_view _ _ _ _ _ _ _ _ _ _ _ c.args.b c.self.view_is c.self.invariant c.requires in
    omega (arith, f.room, c.self.invariant.sky.stack_room, c.self.inside.stack.ok.0)

pub index_mut-requires-2 : goal.index_mut-requires-2
index_mut-requires-2 c =
    let f = push_of_view _ _ _ _ _ _ _ _ _ _ _ c.args.b c.self.view_is c.self.invariant c.requires in
    omega (arith, f.room, c.self.invariant.sky.ledge_room, c.self.inside.ledges.ok.0)

pub index_mut-requires-3 : goal.index_mut-requires-3
index_mut-requires-3 c =
    let f = push_of_view _ _ _ _ _ _ _ _ _ _ _ c.args.b c.self.view_is c.self.invariant c.requires in
    omega (arith, f.low.in_range, c.self.invariant.sky.carries.free_count, c.self.inside.free.ok.0)

pub invariant_of-self : goal.invariant_of-self
invariant_of-self c =
    let a = c.self.inside in
    let b = c.args.b in
    let f = push_of_view _ _ _ _ _ _ _ _ _ _ _ c.args.b c.self.view_is c.self.invariant c.requires in
    let at : c.least_offset-offset.result ≡
    offset_after a.instance.now (whole a.instance.now a.members.items) (reverse (take a.depth a.stack.items)) b =
    c.least_offset-offset.ensures.value
    ∙ sym (up_of_view _ _ (whole a.instance.now a.members.items) (reverse (take a.depth a.stack.items)) _ b
    c.self.view_is) in
    let size : c.size-size.result ≡ (buffer a.instance.now b).size =
    c.size-size.ensures.value ∙ ap (λ (x : Buffer). x.size) c.buffer.ensures.value in
    let top : c.raise.new.heights ≡ set_each (λ _. c.least_offset-offset.result + (buffer a.instance.now b).size)
    (sections_of a.sections.now b) a.heights.items =
    c.raise.ensures
    ∙ ap (λ t. set_each (λ _. c.least_offset-offset.result + t) c.sections_of-sections.result.now
    c.deref_mut-2.result.now) size
    ∙ ap (λ (s : List ℕ). set_each (λ _. c.least_offset-offset.result + (buffer a.instance.now b).size) s
    c.deref_mut-2.result.now) c.sections_of-sections.ensures.value
    ∙ ap (set_each (λ _. c.least_offset-offset.result + (buffer a.instance.now b).size)
    (sections_of a.sections.now b)) c.deref_mut-2.ensures.value in
    let count : length c.raise.new.heights ≡ a.heights.len =
    ap length top
    ∙ length-set_each (λ _. c.least_offset-offset.result + (buffer a.instance.now b).size)
    (sections_of a.sections.now b) a.heights.items ∙ sym a.heights.ok.0 in
    let row : c.save.new.saved ≡ at_places a.heights.items (sections_of a.sections.now b) =
    c.save.ensures
    ∙ ap (λ (h : List ℕ). at_places h c.sections_of-sections.result.now) c.deref.ensures.value
    ∙ ap (at_places a.heights.items) c.sections_of-sections.ensures.value in
    let n = c.self.invariant.sky.carries.saved_count in
    let lt : b < length a.saved.items = omega (arith, f.low.in_range, n, length-map a.saved.items items_of) in
    let kept : length c.save.new.saved ≡ c.index_mut-row.result.now.len =
    ap length row ∙ length-map (sections_of a.sections.now b) (slice_index a.heights.items)
    ∙ sym (c.self.invariant.sky.carries.saved_room b f.low.in_range f.member)
    ∙ ap length (row_is a.saved.items b c.index_mut-row.result.now lt c.index_mut-row.ensures.value)
    ∙ sym c.index_mut-row.result.now.ok.0 in
    let lighter : c.lighten.new.loads ≡ set_each (λ s. slice_index a.loads.items s - (buffer a.instance.now b).size)
    (sections_of a.sections.now b) a.loads.items =
    c.lighten.ensures
    ∙ ap (λ (t : ℕ). set_each (λ s. slice_index c.deref_mut-3.result.now s - t) c.sections_of-sections.result.now
    c.deref_mut-3.result.now) size
    ∙ ap (λ (x : List ℕ). set_each (λ s. slice_index x s - (buffer a.instance.now b).size)
    c.sections_of-sections.result.now x) c.deref_mut-3.ensures.value
    ∙ ap (λ (x : List ℕ). set_each (λ s. slice_index a.loads.items s - (buffer a.instance.now b).size) x
    a.loads.items) c.sections_of-sections.ensures.value in
    let counted : length c.lighten.new.loads ≡ a.loads.len =
    ap length lighter
    ∙ length-set_each (λ s. slice_index a.loads.items s - (buffer a.instance.now b).size)
    (sections_of a.sections.now b) a.loads.items ∙ sym a.loads.ok.0 in
    record {
      sky =
          subst (λ (rows : List (List ℕ)). IsSkyline a.instance.now a.sections.now a.members.items (a.depth + 1)
          (slice_set a.stack.items a.depth b) (slice_set a.ledges.items a.depth c.least_offset-offset.result)
          (with_items a.heights c.raise.new.heights).items rows (slice_set a.free.items b false))
          (sym (map-set items_of a.saved.items b (with_items c.index_mut-row.result.now c.save.new.saved)))
          (pushed_sky _ _ _ _ _ _ _ _ _ b c.least_offset-offset.result _ _ c.self.invariant.sky f.left at
          (with_items_is a.heights c.raise.new.heights count ∙ top)
          (with_items_is c.index_mut-row.result.now c.save.new.saved kept ∙ row));
      loads = pushed_loads _ _ _ _ _ _ _ _ _ _ b _ c.self.invariant f.left
          (omega (arith, f.room, c.self.invariant.sky.stack_room))
          (with_items_is a.loads c.lighten.new.loads counted ∙ lighter);
    }

pub returns-clause-claims : goal.returns-clause-claims
returns-clause-claims c =
    let a = c.self.inside in
    let f = push_of_view _ _ _ _ _ _ _ _ _ _ _ c.args.b c.self.view_is c.self.invariant c.requires in
    pushed_claims _ a.sections.now a.members.items a.depth a.stack.items _ c.args.b c.self.view_is
    (omega (arith, f.room, c.self.invariant.sky.stack_room))

pub returns-clause-low : goal.returns-clause-low
returns-clause-low c = low_of_view _ _ _ _ _ _ _ _ _ _ refl (invariant_of-self c).sky
