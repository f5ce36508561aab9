use Rattle.std.proofs.Common.{◌≡◌, ◌<◌, ◌+◌, inl, inr, ℕ, List, map, take, slice_index, ap, sym, subst, ◌∙◌, arith}
use Rattle.std.specs.Prelude.{IfSome, Option, ◌^◌}
use Rattle.std.specs.List.{filter}
use Rattle.std.proofs.lemmas.List.{take_all}
use Rattle.dsa_terms.proofs.Lists.{true_or_false}
use Rattle.dsa_terms.proofs.Places.{in_at}
use Rattle.dsa_terms.specs.Claims.{up}
use Rattle.lifetime.specs.SectionList.{members_of}
use Rattle.skyline.specs.Overloads.{is_left, lower, least_of, least_up}
use Rattle.skyline.proofs.Loads.{gives_left, left_gives}
use Rattle.skyline.proofs.Overloads.{least_next, least_kept, fits_from, lesser_over, none_of, some_of}
use Rattle.skyline.proofs.sky.Skyline.least_low.Goals.{then-has+else-low-load, else-has}
use Rattle.canonical_order.specs.Claims.{entry_of}
use Rattle.dsa_terms.specs.Claims.{IsIn}
use Rattle.skyline.specs.Skies.{Sky, last_claim}
use Rattle.skyline.proofs.sky.Skyline.least_low.Goals as goal

pub returns-then-low-load-clause-none : goal.returns-then-low-load-clause-none
returns-then-low-load-clause-none c =
    let l = last_claim c.args.self.now.claims in
    let b = slice_index c.members-members.result.now c.loop-i.i in
    let members : c.members-members.result.now ≡ members_of c.args.self.now.sections c.args.s =
    c.members-members.ensures.value ∙ ap (λ (k : Sky). members_of k.sections c.args.s) c.self.view_is in
    let e = c.least_offset-low.ensures.value in
    let t = c.if-low-load.true in
    fits_from c.args.self.now.instance c.args.self.now.sections l c.args.s b c.args.load c.args.capacity
    (subst (IsIn b) members (in_at c.members-members.result.now c.loop-i.i 0 c.loop-i-test.true))
    (c.has.ensures.value.0 c.if-has.true) (omega (arith, e, t))

pub loop-i-preserved : goal.loop-i-preserved
loop-i-preserved c =
    let l = last_claim c.args.self.now.claims in
    let x = slice_index c.members-members.result.now c.loop-i.i in
    elim c.if-has.branch [
      | then-has+else-low-load w ↦ record {
        value = w.least-is ∙ least_next (λ b. up c.args.self.now.instance (entry_of l b))
            (is_left l) c.members-members.result.now c.loop-i.i c.loop-i.least _ (omega arith) c.loop-i.invariant.value
            (gives_left l x (c.has.ensures.value.0 w.if-has.true)) (w.lesser.ensures.value
            ∙ ap (λ n. lower n c.loop-i.least) w.least_offset-low.ensures.value);
        limit = subst (λ (o : Option ℕ). IfSome o (λ h. h < 2 ^ 54)) (sym w.least-is)
            (let k = w.lesser.ensures.limit in let m = w.least_offset-low.ensures.limit in omega (arith, k, m));
        over = subst (λ (o : Option ℕ). IfSome o (λ h. c.args.capacity < h + c.args.load)) (sym w.least-is)
            (lesser_over w.least_offset-low.result c.loop-i.least w.lesser.result c.args.load c.args.capacity
            w.lesser.ensures.value w.if-low-load.false c.loop-i.invariant.over);
      }
      | else-has w ↦ record {
        value = w.least-is ∙ least_kept (λ b. up c.args.self.now.instance (entry_of l b))
            (is_left l) c.members-members.result.now c.loop-i.i c.loop-i.least (omega arith) c.loop-i.invariant.value
            (elim (true_or_false (is_left l x)) [
              | inl h ↦ absurd (let r = c.has.ensures.value.1 (left_gives l x h) in
                  let q = w.if-has.false in cc (r, q))
              | inr h ↦ h
            ]);
        limit = subst (λ (o : Option ℕ). IfSome o (λ h. h < 2 ^ 54)) (sym w.least-is) c.loop-i.invariant.limit;
        over = subst (λ (o : Option ℕ). IfSome o (λ h. c.args.capacity < h + c.args.load)) (sym w.least-is)
            c.loop-i.invariant.over;
      }
    ]

least_up_is : (c : goal.After-loop-i) →
    least_up c.args.self.now.instance c.args.self.now.sections (last_claim c.args.self.now.claims) c.args.s
    ≡ c.loop-i.least
unfolding least_up
least_up_is c =
    let l = last_claim c.args.self.now.claims in
    let whole : take c.loop-i.i c.members-members.result.now ≡ members_of c.args.self.now.sections c.args.s =
    take_all c.loop-i.i c.members-members.result.now (omega arith) ∙ c.members-members.ensures.value
    ∙ ap (λ (k : Sky). members_of k.sections c.args.s) c.self.view_is in
    sym (c.loop-i.invariant.value ∙ ap (λ (xs : List ℕ). least_of
    (map (λ b. up c.args.self.now.instance (entry_of l b)) (filter (is_left l) xs))) whole)

pub returns-clause-some : goal.returns-clause-some
returns-clause-some c = some_of c.loop-i.least _ (least_up_is c)

pub returns-clause-none : goal.returns-clause-none
returns-clause-none c = none_of c.args.load c.args.capacity c.loop-i.least _ (least_up_is c)
