-- The instance that is built buffer by buffer.
use Rattle.std.proofs.Common.{◌≡◌, ◌+◌, ◌≤◌, ◌∙◌, ℕ, List, [], ◌∷◌, ◌++◌, length, map, take, drop, sum, slice_index, sym, ap, ap₂, arith, length-drop}
use Rattle.std.specs.List.{range_with_len}
use Rattle.std.proofs.lemmas.List.{length-take-le}
use Rattle.std.proofs.lemmas.List.FromFn.{length-map-range_with_len, map-range_with_len_more}
use Rattle.dsa_terms.specs.Buffers.{Buffer, Instance}
use Rattle.dsa_plan.proofs.Sums.{sum_take_more}

pub built_length : (f : ℕ → Buffer) (b : ℕ) (I : Instance) → I ≡ map f (range_with_len 0 b) → length I ≡ b
built_length f b I e = ap length e ∙ length-map-range_with_len f 0 b

pub built_more : (f : ℕ → Buffer) (b : ℕ) (x : Buffer) (I J : Instance) → I ≡ map f (range_with_len 0 b) → x ≡ f b →
    J ≡ I ++ x ∷ [] → J ≡ map f (range_with_len 0 (b + 1))
built_more f b x I J e g h =
    h ∙ ap₂ (λ (i : Instance) (y : Buffer). i ++ y ∷ []) e g ∙ sym (map-range_with_len_more f 0 b b (omega arith))

-- as many gaps as the count says, and so the next buffer's come after them
pub gaps_more : (counts : List ℕ) (gaps mine : List (ℕ × ℕ)) (b first n : ℕ) → first ≡ sum (take b counts) →
    n ≡ slice_index counts b → first + n ≤ length gaps → mine ≡ take n (drop first gaps) →
    first + length mine ≡ sum (take (b + 1) counts)
gaps_more counts gaps mine b first n e g le h =
    let d = length-drop first gaps in
    let t = length-take-le n (drop first gaps) (omega arith) in
    let l : length mine ≡ n = ap length h ∙ t in
    let s = sum_take_more counts b in
    omega arith
