-- The tally of one section, one buffer after another.
use Rattle.std.proofs.Common.{◌≡◌, ◌^◌, ℕ, ◌+◌, ◌-◌, ◌<◌, ◌≤◌, true, false, cond, max, nat_lt, List, [], ◌∷◌, ◌++◌, length, filter, take, slice_index_or, sym, refl, ap, subst, ◌∙◌, arith}
use Rattle.std.specs.Int.{next_multiple_of}
use Rattle.std.specs.List.{All}
use Rattle.std.proofs.lemmas.List.{length-take, take_more}
use Rattle.dsa_start_laws.specs.Piles.{rounded_size}
use Rattle.dsa_terms.specs.Buffers.{Buffer, Instance, buffer, floor, is_live}
use Rattle.dsa_terms.specs.Claims.{IsIn}
use Rattle.dsa_terms.proofs.Lists.{from_filter, length-filter_le}
use Rattle.dsa_model.specs.Buffer.{IsBuffer, buffer_limit}
use Rattle.dsa_model.proofs.Instances.{sound_buffer}
use Rattle.lifetime.specs.SectionList.{SectionList, start_of}
use Rattle.lower_bounds.specs.Stacks.{IsFalling, IsModulus, is_counted, rounding_of, spare_of, total_of}
use Rattle.lower_bounds.specs.Tallies.{IsTally, members_among, no_tally}
use Rattle.lower_bounds.specs.declared.tallies.Tally.{Tally}
use Rattle.lower_bounds.proofs.Orders.{in_take, length-order, order_below, taken_fall}
use Rattle.lower_bounds.proofs.Piles.{last_in, last_out, spare_in_total, spare_more, total_limit, total_more}
use Rattle.lower_bounds.proofs.Tallest.{tallest_more, tallest_none, tallest_same}

-- ---- the tally of one section
pub tally_none : (I : Instance) (G : ℕ) → IsTally I G [] no_tally
unfolding total_of spare_of
tally_none I G = record { total = refl; spare = refl; tallest = tallest_none I G }

pub tally_same : (I : Instance) (G : ℕ) (members : List ℕ) (b : ℕ) (x : Tally) → is_counted I G b ≡ false →
    IsTally I G members x → IsTally I G (members ++ b ∷ []) x
tally_same I G members b x n h = record {
  total = h.total ∙ ap (total_of I G) (sym (last_out (is_counted I G) members b n));
  spare = h.spare ∙ ap (spare_of I G) (sym (last_out (is_counted I G) members b n));
  tallest = tallest_same I G members b x.value x.height n h.tallest;
}

-- what a buffer of this floor, rounded size and rounding adds
pub record IsAdded (x y : Tally) (floor rounded rounding : ℕ) : Type 0 where
  pub total : y.total ≡ x.total + rounded
  pub spare : y.spare ≡ max x.spare rounding
  pub value : y.value ≡ max x.value (floor + (y.total - y.spare))
  pub height : y.height ≡ cond (nat_lt (floor + (y.total - y.spare)) x.value) x.height floor

-- by the numbers of the buffer
pub added_by : (I : Instance) (G b its_floor size again rounded : ℕ) (buf : Buffer) (x y : Tally) → buf ≡ buffer I b →
    its_floor ≡ floor buf → size ≡ buf.size → again ≡ buf.size → rounded ≡ next_multiple_of size G →
    IsAdded x y its_floor rounded (rounded - again) →
    IsAdded x y (floor (buffer I b)) (rounded_size I G b) (rounding_of I G b)
unfolding rounded_size
added_by I G b its_floor size again rounded buf x y e f s a r h =
    subst (λ (c : Buffer). IsAdded x y (floor c) (next_multiple_of c.size G) (next_multiple_of c.size G - c.size)) e
    (rw (← f, ← s, ← r) (rw (a, ← s) at h))

pub tally_more : (I : Instance) (G : ℕ) (members : List ℕ) (b : ℕ) (x y : Tally) → is_counted I G b ≡ true →
    ((c : ℕ) → IsIn c members → floor (buffer I b) ≤ floor (buffer I c)) →
    IsAdded x y (floor (buffer I b)) (rounded_size I G b) (rounding_of I G b) → IsTally I G members x →
    IsTally I G (members ++ b ∷ []) y
tally_more I G members b x y here falls a h =
    let last = last_in (is_counted I G) members b here in
    record {
      total = a.total ∙ (ap (λ n. n + rounded_size I G b) h.total
          ∙ (sym (total_more I G (filter (is_counted I G) members) b) ∙ ap (total_of I G) (sym last)));
      spare = a.spare ∙ (ap (λ n. max n (rounding_of I G b)) h.spare
          ∙ (sym (spare_more I G (filter (is_counted I G) members) b) ∙ ap (spare_of I G) (sym last)));
      tallest = rw (a.value, a.height, a.total, a.spare, h.total, h.spare)
          (tallest_more I G members b here falls x.value x.height h.tallest);
    }

-- ---- those that are live at a section, where one more is taken
module _ (I : Instance) (S : SectionList) (order : List ℕ) (place s : ℕ) (lt : place < length order) where
  abbrev b : ℕ
  b = slice_index_or order place 0

  pub live_more : is_live (buffer I (slice_index_or order place 0)) (start_of S s) ≡ true →
      members_among I S (take (place + 1) order) s
      ≡ members_among I S (take place order) s ++ slice_index_or order place 0 ∷ []
  unfolding members_among
  live_more t = ap (filter (λ c. is_live (buffer I c) (start_of S s))) (take_more order place 0 lt)
      ∙ last_in (λ c. is_live (buffer I c) (start_of S s)) (take place order) b t

  pub live_same : is_live (buffer I (slice_index_or order place 0)) (start_of S s) ≡ false →
      members_among I S (take (place + 1) order) s ≡ members_among I S (take place order) s
  unfolding members_among
  live_same t = ap (filter (λ c. is_live (buffer I c) (start_of S s))) (take_more order place 0 lt)
      ∙ last_out (λ c. is_live (buffer I c) (start_of S s)) (take place order) b t

  pub live_fall : IsFalling I order → (c : ℕ) → IsIn c (members_among I S (take place order) s) →
      floor (buffer I (slice_index_or order place 0)) ≤ floor (buffer I c)
  unfolding members_among
  live_fall h c i = taken_fall I order place h lt c
      (from_filter (λ c. is_live (buffer I c) (start_of S s)) (take place order) c i).0

-- the sums are within the limits of the numbers
pub tally_limit : (I : Instance) (S : SectionList) (G : ℕ) (order : List ℕ) (place s : ℕ) (x : Tally) → All IsBuffer I →
    length I ≤ buffer_limit → IsFalling I order → IsModulus G → IsTally I G (members_among I S (take place order) s) x →
    (x.total ≤ 2 ^ 53) × (x.spare ≤ x.total)
unfolding members_among
tally_limit I S G order place s x buffers few f m h =
    let t = total_limit I G counted (λ b i. sound_buffer I b buffers (order_below I order b f (among_order b i))) m in
    let u = spare_in_total I G counted in
    let k = length-filter_le (is_counted I G) members in
    let l = length-filter_le (λ c. is_live (buffer I c) (start_of S s)) (take place order) in
    let n = length-take place order in
    let o = length-order I order f in
    let a = h.total in
    let b = h.spare in
    (omega arith, omega arith)
  where
    members : List ℕ
    members = filter (λ c. is_live (buffer I c) (start_of S s)) (take place order)

    counted : List ℕ
    counted = filter (is_counted I G) (filter (λ c. is_live (buffer I c) (start_of S s)) (take place order))

    among_order : (b : ℕ) → IsIn b counted → IsIn b order
    among_order b i = in_take order place b
        (from_filter (λ c. is_live (buffer I c) (start_of S s)) (take place order) b
        (from_filter (is_counted I G) members b i).0).0
