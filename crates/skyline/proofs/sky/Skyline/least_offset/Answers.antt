use Rattle.std.proofs.Common.{◌≡◌, ◌<◌, ◌^◌, ap, sym, subst, ◌∙◌, arith, slice_index, max, length, List, ℕ, reverse, take, ◌-◌}
use Rattle.std.specs.List.{All}
use Rattle.std.specs.Int.{next_multiple_of}
use Rattle.dsa_terms.specs.Buffers.{Buffer, buffer}
use Rattle.dsa_terms.specs.Logs.{greatest}
use Rattle.dsa_terms.specs.Parts.{whole}
use Rattle.lifetime.specs.SectionList.{sections_of}
use Rattle.skyline.specs.Places.{at_places}
use Rattle.skyline.specs.Carried.{ledge_at}
use Rattle.skyline.proofs.Lefts.{low_facts_of, up_of_view}
use Rattle.skyline.proofs.Bounds.{stands_of_view}
use Rattle.skyline.proofs.sky.Skyline.least_offset.Goals as goal

pub sections_of-requires : goal.sections_of-requires
sections_of-requires c = (low_facts_of _ _ _ _ _ _ _ _ _ _ c.args.b c.self.view_is c.self.invariant.sky
    c.requires).in_sections

pub highest-top-requires : goal.highest-top-requires
highest-top-requires c =
    let f = low_facts_of _ _ _ _ _ _ _ _ _ _ c.args.b c.self.view_is c.self.invariant.sky c.requires in
    subst (λ (x : List ℕ). All (λ s. s < length c.deref.result.now) x) (sym c.sections_of.ensures.value)
    (subst (λ (h : List ℕ). All (λ s. s < length h) (sections_of c.self.inside.sections.now c.args.b))
    (sym c.deref.ensures.value) f.sections)

pub ledge_above-ledge-requires-clause-limit : goal.ledge_above-ledge-requires-clause-limit
ledge_above-ledge-requires-clause-limit c =
    let f = low_facts_of _ _ _ _ _ _ _ _ _ _ c.args.b c.self.view_is c.self.invariant.sky c.requires in
    subst (λ (x : List ℕ). 0 < c.self.inside.depth → slice_index x (c.self.inside.depth - 1) < 2 ^ 60)
    (sym c.deref-3.ensures.value) f.ledge_limit

pub buffer-buffer-requires : goal.buffer-buffer-requires
buffer-buffer-requires c =
    (low_facts_of _ _ _ _ _ _ _ _ _ _ c.args.b c.self.view_is c.self.invariant.sky c.requires).in_range

pub least_offset-requires : goal.least_offset-requires
least_offset-requires c =
    let f = low_facts_of _ _ _ _ _ _ _ _ _ _ c.args.b c.self.view_is c.self.invariant.sky c.requires in
    let t : c.highest-top.result ≡ greatest (at_places c.self.inside.heights.items
    (sections_of c.self.inside.sections.now c.args.b)) =
    c.highest-top.ensures ∙ ap (λ (h : List ℕ). greatest (at_places h c.sections_of.result.now)) c.deref.ensures.value
    ∙ ap (λ (s : List ℕ). greatest (at_places c.self.inside.heights.items s)) c.sections_of.ensures.value in
    let u : c.ledge_above-ledge.result ≡ ledge_at (reverse (take c.self.inside.depth c.self.inside.stack.items))
    (reverse (take c.self.inside.depth c.self.inside.ledges.items)) c.args.b =
    c.ledge_above-ledge.ensures ∙ ap (λ (x : List ℕ). ledge_at (reverse (take c.self.inside.depth x))
    (reverse (take c.self.inside.depth c.deref-3.result.now)) c.args.b) c.deref-2.ensures.value
    ∙ ap (λ (x : List ℕ). ledge_at (reverse (take c.self.inside.depth c.self.inside.stack.items))
    (reverse (take c.self.inside.depth x)) c.args.b) c.deref-3.ensures.value in
    let w : c.lowest.result ≡ (buffer c.self.inside.instance.now c.args.b).lowest =
    c.lowest.ensures.value ∙ ap (λ (x : Buffer). x.lowest) c.buffer-buffer.ensures.value in
    let m : c.max-bound.result ≡ max c.lowest.result (max c.highest-top.result c.ledge_above-ledge.result) =
    omega (arith, c.max.ensures, c.max-bound.ensures) in
    let b = f.bound _ _ t u in
    omega (arith, m, w, b)

pub returns-clause-value : goal.returns-clause-value
returns-clause-value c =
    let f = low_facts_of _ _ _ _ _ _ _ _ _ _ c.args.b c.self.view_is c.self.invariant.sky c.requires in
    let t : c.highest-top.result ≡ greatest (at_places c.self.inside.heights.items
    (sections_of c.self.inside.sections.now c.args.b)) =
    c.highest-top.ensures ∙ ap (λ (h : List ℕ). greatest (at_places h c.sections_of.result.now)) c.deref.ensures.value
    ∙ ap (λ (s : List ℕ). greatest (at_places c.self.inside.heights.items s)) c.sections_of.ensures.value in
    let u : c.ledge_above-ledge.result ≡ ledge_at (reverse (take c.self.inside.depth c.self.inside.stack.items))
    (reverse (take c.self.inside.depth c.self.inside.ledges.items)) c.args.b =
    c.ledge_above-ledge.ensures ∙ ap (λ (x : List ℕ). ledge_at (reverse (take c.self.inside.depth x))
    (reverse (take c.self.inside.depth c.deref-3.result.now)) c.args.b) c.deref-2.ensures.value
    ∙ ap (λ (x : List ℕ). ledge_at (reverse (take c.self.inside.depth c.self.inside.stack.items))
    (reverse (take c.self.inside.depth x)) c.args.b) c.deref-3.ensures.value in
    let m : c.max-bound.result ≡ max c.lowest.result (max c.highest-top.result c.ledge_above-ledge.result) =
    omega (arith, c.max.ensures, c.max-bound.ensures) in
    c.least_offset.ensures ∙ ap (λ x. next_multiple_of x c.buffer-buffer.result.now.alignment) (m ∙ ap (λ x. max x
    (max c.highest-top.result c.ledge_above-ledge.result)) c.lowest.ensures.value)
    ∙ ap (λ (x : Buffer). next_multiple_of (max x.lowest (max c.highest-top.result c.ledge_above-ledge.result))
    x.alignment) c.buffer-buffer.ensures.value
    ∙ f.value _ _ t u ∙ up_of_view _ _ (whole c.self.inside.instance.now c.self.inside.members.items)
    (reverse (take c.self.inside.depth c.self.inside.stack.items)) _ c.args.b c.self.view_is

pub returns-clause-limit : goal.returns-clause-limit
returns-clause-limit c =
    let f = low_facts_of _ _ _ _ _ _ _ _ _ _ c.args.b c.self.view_is c.self.invariant.sky c.requires in
    let e = returns-clause-value c in
    let k = up_of_view _ _ (whole c.self.inside.instance.now c.self.inside.members.items)
    (reverse (take c.self.inside.depth c.self.inside.stack.items)) _ c.args.b c.self.view_is in
    let l = f.limit in
    omega (arith, e, k, l)

pub returns-clause-stands : goal.returns-clause-stands
returns-clause-stands c = stands_of_view _ _ _ _ _ _ _ _ _ _ c.self.view_is c.self.invariant.sky
