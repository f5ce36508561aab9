-- The best start ends below 2 ^ 54, as the first of the six starts does.
use Rattle.std.proofs.Common.{◌≡◌, ◌^◌, ◌<◌, ◌≤◌, ℕ, suc, inl, Bool, true, false, cond, List, [], ◌∷◌, length, refl, ap, ◌∙◌, arith}
use Rattle.std.specs.List.{All}
use Rattle.std.proofs.lemmas.List.FromFn.{length-range_with_len}
use Rattle.dsa_terms.specs.Buffers.{Buffer, Instance}
use Rattle.dsa_terms.specs.Claims.{IsIn}
use Rattle.dsa_terms.specs.Fits.{first_fit, first_place}
use Rattle.dsa_terms.specs.Sorts.{put_by, ordered_by}
use Rattle.dsa_terms.specs.Orders.{falls_by, orders}
use Rattle.dsa_terms.specs.Parts.{numbers}
use Rattle.dsa_terms.specs.Plans.{layout_height}
use Rattle.dsa_terms.specs.Starts.{best_start, starts}
use Rattle.dsa_terms.proofs.Places.{all_from_in}
use Rattle.dsa_terms.proofs.Ranges.{from_range, into_range}
use Rattle.dsa_terms.proofs.Lists.{into_ordered_by, from_ordered_by, length-ordered_by}
use Rattle.dsa_start_laws.proofs.Planned.{best_start_is_lowest}
use Rattle.dsa_model.specs.Buffer.{IsBuffer, buffer_limit}
use Rattle.dsa_model.proofs.Instances.{sound_instance}
use Rattle.first_fit.specs.Rules.{IsOrderOf}
use Rattle.first_fit.proofs.Fitting.{first_is_low, fitting_limit}

-- the order of the first start: by size falling
abbrev pub by_size : Instance → List ℕ
by_size I = ordered_by (falls_by (λ (b : Buffer). b.size) I) (numbers (length I))

is_order : (I : Instance) → IsOrderOf I (by_size I)
is_order I = record {
  count = length-ordered_by (falls_by (λ (b : Buffer). b.size) I) (numbers (length I))
      ∙ length-range_with_len 0 (length I);
  in_range = all_from_in (λ b. b < length I) (by_size I) (λ b i.
      let z = (from_range (length I) 0 b
      (from_ordered_by (falls_by (λ (b : Buffer). b.size) I) (numbers (length I)) b i)).1 in
      omega arith);
  each = λ b lt. into_ordered_by (falls_by (λ (b : Buffer). b.size) I) (numbers (length I)) b
      (into_range (length I) 0 b (omega arith) (omega arith));
}

-- the first start ends below 2 ^ 54
pub first_low : (I : Instance) → All IsBuffer I → length I ≤ buffer_limit →
    layout_height I (first_fit I (by_size I)) < 2 ^ 54
unfolding first_fit
first_low I all few = fitting_limit I first_place (by_size I) (first_fit I (by_size I))
    (first_is_low I (sound_instance I all)) all (is_order I) few refl

first_is_start : (I : Instance) → IsIn (first_fit I (by_size I)) (starts I)
unfolding starts orders
first_is_start I = inl refl

pub best_low : (I : Instance) → All IsBuffer I → length I ≤ buffer_limit → layout_height I (best_start I) < 2 ^ 54
best_low I all few =
    let low = first_low I all few in
    let le = best_start_is_lowest I (first_fit I (by_size I)) (first_is_start I) in
    omega arith
