-- Between edges nothing changes.
use Rattle.std.proofs.Common.{◌≡◌, ◌≢◌, ℕ, zero, suc, ◌+◌, ◌-◌, ◌<◌, ◌≤◌, inl, inr, Bool, false, ◌&&◌, nat_le, nat_lt, List, [], ◌∷◌, refl, ap, ◌∙◌, arith}
use Rattle.std.proofs.lemmas.Bool.Decides.{nat_tests}
use Rattle.std.specs.List.{list_any}
use Rattle.dsa_terms.specs.Buffers.{Buffer, is_live, is_within}
use Rattle.dsa_terms.specs.Claims.{IsIn}
use Rattle.dsa_model.proofs.Live.{not_live_before}
use Rattle.lifetime.specs.Edges.{edge_moments, gap_ends}
use Rattle.lifetime.specs.Runs.{was_live}

within_stays : (a b t : ℕ) → suc t ≢ a → suc t ≢ b → (nat_le a (suc t) && nat_lt (suc t) b) ≡ (nat_le a t && nat_lt t b)
within_stays a b t m n = both (low a t m) (high b t n)
  where
    low : (a t : ℕ) → suc t ≢ a → nat_le a (suc t) ≡ nat_le a t
    low a t h = grind (arith, nat_tests)

    high : (b t : ℕ) → suc t ≢ b → nat_lt (suc t) b ≡ nat_lt t b
    high b t h = grind (arith, nat_tests)

    both : {p q r s : Bool} → p ≡ q → r ≡ s → (p && r) ≡ (q && s)
    both h k = cc

gaps_stay : (gaps : List (ℕ × ℕ)) (t : ℕ) → (IsIn (suc t) (gap_ends gaps) → ⊥) →
    list_any (is_within (suc t)) gaps ≡ list_any (is_within t) gaps
gaps_stay [] t h = refl
gaps_stay (g ∷ gs) t h =
    let e : is_within (suc t) g ≡ is_within t g = within_stays g.0 g.1 t (λ e. h (inl e)) (λ e. h (inr (inl e))) in
    let f = gaps_stay gs t (λ i. h (inr (inr i))) in cc

live_stays : (b : Buffer) (t : ℕ) → (IsIn (suc t) (edge_moments b) → ⊥) → is_live b (suc t) ≡ is_live b t
unfolding is_live
live_stays b t h =
    let e : (nat_le b.lower (suc t) && nat_lt (suc t) b.upper) ≡ (nat_le b.lower t && nat_lt t b.upper) =
    within_stays b.lower b.upper t (λ e. h (inl e)) (λ e. h (inr (inl e))) in
    let f = gaps_stay b.gaps t (λ i. h (inr (inr i))) in cc

-- over moments without an edge
pub stays_over : (b : Buffer) (t k : ℕ) → ((u : ℕ) → t < u → u ≤ t + k → IsIn u (edge_moments b) → ⊥) →
    is_live b (t + k) ≡ is_live b t
stays_over b t zero h = ap (is_live b) (let e : t + 0 ≡ t = omega arith in e)
stays_over b t (suc k) h =
    ap (is_live b) (let e : t + suc k ≡ suc (t + k) = omega arith in e)
    ∙ (live_stays b (t + k) (h (suc (t + k)) (omega arith) (omega arith)) ∙ stays_over b t k
    (λ u low high. h u low (omega arith)))

-- at a moment without an edge the buffer is live where it was
pub quiet : (b : Buffer) (t : ℕ) → (IsIn t (edge_moments b) → ⊥) → is_live b t ≡ was_live b t
unfolding was_live
quiet b zero h = not_live_before b 0 (positive b.lower (λ e. h (inl e)))
  where
    positive : (n : ℕ) → 0 ≢ n → 0 < n
    positive n h = grind arith
quiet b (suc t) h = live_stays b t h

-- from one moment to a later one without edges between
pub was_live_after : (b : Buffer) (t next : ℕ) → t < next →
    ((u : ℕ) → t < u → u < next → IsIn u (edge_moments b) → ⊥) → was_live b next ≡ is_live b t
unfolding was_live
was_live_after b t zero lt h = absurd (omega arith)
was_live_after b t (suc next) lt h =
    ap (is_live b) (let e : next ≡ t + (next - t) = omega arith in e)
    ∙ stays_over b t (next - t) (λ u low high. h u low (omega arith))

-- before its lower it was not live
pub not_live_before_lower : (b : Buffer) (t : ℕ) → t ≤ b.lower → was_live b t ≡ false
unfolding was_live
not_live_before_lower b zero le = refl
not_live_before_lower b (suc t) le = not_live_before b t (omega arith)
