-- The levels of a claim are those of the claim with its lows as bounds.
use Rattle.std.proofs.Common.{◌≡◌, ℕ, ◌+◌, ◌<◌, List, length, sym, ap, ◌∙◌, subst}
use Rattle.claim_levels.proofs.Words.{Instance, IsInstance, Claim, Entry, IsIn, up, from_map, HasBuffer, entry_of, AreLevels}
use Rattle.claim_levels.specs.Lifted.{lift, lifted}
use Rattle.claim_levels.proofs.Lifting.{buffers_of-lifted, lifted_entry, lifted_has, lifted_rises, up_of_lift}

pub lifted_levels : (I : Instance) (l : Claim) (levels : List ℕ) → IsInstance I → AreLevels I l levels →
    AreLevels I (lifted I l) levels
lifted_levels I l levels s h = record {
  claim = record {
    rises = lifted_rises I l h.claim.rises;
    in_range = λ e i. (let r = from_map (lift I) l e i in
        subst (λ b. b < length I) (sym (ap (λ (e : Entry). e.0) r.2)) (h.claim.in_range r.0 r.1));
  };
  count = h.count;
  each = λ b lt. record {
    inside = λ i. (let j : HasBuffer l b = subst (IsIn b) (buffers_of-lifted I l) i in
        (h.each b lt).inside j ∙ ap (λ n. n + 1) (same_up b j));
    outside = λ out. (h.each b lt).outside (λ j. out (lifted_has I l b j));
  };
}
  where
    same_up : (b : ℕ) → HasBuffer l b → up I (entry_of l b) ≡ up I (entry_of (lifted I l) b)
    same_up b j = sym (up_of_lift I (entry_of l b) s) ∙ ap (up I) (lifted_entry I l b h.claim.rises j)
