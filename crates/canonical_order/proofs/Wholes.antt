-- Whole claims, and claims without a bound above a floor.
use Rattle.std.proofs.Common.{◌≡◌, ℕ, ◌+◌, ◌<◌, ◌≤◌, ◌↔◌, ◌^◌, ◌∷◌, [], true, false, List, length, drop, slice_index_or, Option, Some, None, option_map, find, is_none, is_some, not, IsTrue, All, inl, inr, Bool, cond, refl, sym, ◌∙◌, arith}
use Rattle.dsa_terms.specs.Buffers.{Instance, buffer, floor}
use Rattle.dsa_terms.specs.Claims.{Entry, Claim, IsIn, IsWhole, Rises}
use Rattle.dsa_terms.specs.Parts.{whole}
use Rattle.dsa_terms.proofs.NumberTests.{not_below, not_less}
use Rattle.dsa_terms.proofs.Places.{in_from_all}
use Rattle.dsa_search_laws.proofs.Members.{buffers_of-whole, in_whole}
use Rattle.dsa_model.specs.Buffer.{IsBuffer, buffer_limit}
use Rattle.dsa_model.proofs.Instances.{sound_buffer}
use Rattle.canonical_order.specs.Claims.{IsKeptClaim, is_above_floor, least_buffer}
use Rattle.canonical_order.proofs.CoverLemmas.{length_within}
use Rattle.canonical_order.proofs.Places.{at_place}

-- a whole claim is one that the code keeps
pub whole_is_kept : (I : Instance) (bs : List ℕ) → All IsBuffer I → length I ≤ buffer_limit → Rises bs →
    All (λ b. b < length I) bs → IsKeptClaim (whole I bs)
whole_is_kept I bs h n r range = record {
  rises = rw (buffers_of-whole I bs) r;
  bounds = λ e i. let q = in_whole I bs e i in let k : (buffer I e.0).lowest ≤ 2 ^ 40 =
      (sound_buffer I e.0 h (within e i)).within_lowest in omega (arith, q.1);
  count = let k : length (whole I bs) ≤ length I =
      length_within (whole I bs) (length I) (rw (buffers_of-whole I bs) r) within in omega arith;
}
  where
    within : (e : Entry) → IsIn e (whole I bs) → e.0 < length I
    within e i = in_from_all (λ b. b < length I) bs range e.0 (in_whole I bs e i).0

-- ---- the search for a bound above a floor, by what is left of the claim
module _ (I : Instance) (l items : Claim) (n : ℕ) (same : items ≡ l) (here : n < length items)
    (left : least_buffer (is_above_floor I) l ≡ least_buffer (is_above_floor I) (drop n l)) where
  pub found_above : is_above_floor I (slice_index_or items n (0, 0)) ≡ true →
      Some (slice_index_or items n (0, 0)).0 ≡ least_buffer (is_above_floor I) l
  found_above t = sym (left ∙ rw (at_place l items n same here, t) refl)

  pub not_above : is_above_floor I (slice_index_or items n (0, 0)) ≡ false →
      least_buffer (is_above_floor I) l ≡ least_buffer (is_above_floor I) (drop (n + 1) l)
  not_above t = left ∙ rw (at_place l items n same here, t) refl

-- a claim without such a bound is whole
pub whole_exactly : (I : Instance) (l : Claim) (answer : Option ℕ) (none : Bool) →
    answer ≡ least_buffer (is_above_floor I) l → is_some answer ≡ not none → IsTrue none ↔ IsWhole I l
unfolding is_above_floor
whole_exactly I l answer none q n = rw (turned answer none n, q) (forth l, back l)
  where
    turned : (o : Option ℕ) (none : Bool) → is_some o ≡ not none → none ≡ is_none o
    turned None true h = refl
    turned None false h = absurd cc
    turned (Some b) true h = absurd cc
    turned (Some b) false h = refl

    first : (e : Entry) (o : Option Entry) (b : Bool) →
        IsTrue (is_none (option_map (λ (e : Entry). e.0) (cond b (Some e) o))) →
        (b ≡ false) × IsTrue (is_none (option_map (λ (e : Entry). e.0) o))
    first e o true h = absurd cc
    first e o false h = (refl, h)

    forth : (l : Claim) → IsTrue (is_none (least_buffer (is_above_floor I) l)) → IsWhole I l
    forth [] h e i = absurd i
    forth (x ∷ xs) h e (inl q) = rw q (not_less (floor (buffer I x.0)) x.1
        (first x (find (is_above_floor I) xs) (is_above_floor I x) h).0)
    forth (x ∷ xs) h e (inr i) = forth xs (first x (find (is_above_floor I) xs) (is_above_floor I x) h).1 e i

    back : (l : Claim) → IsWhole I l → IsTrue (is_none (least_buffer (is_above_floor I) l))
    back [] w = refl
    back (x ∷ xs) w = rw (not_below (floor (buffer I x.0)) x.1 (w x (inl refl))) (back xs (λ e i. w e (inr i)))
