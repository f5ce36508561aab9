-- The entries of a claim are those of the buffers that have a level.
use Rattle.std.proofs.Common.{◌≡◌, ℕ, ◌+◌, ◌<◌, ◌≤◌, List, [], ◌∷◌, drop, drop_of_length-le, length, slice_index, slice_index_or, sym, ap, ◌∙◌, arith}
use Rattle.std.proofs.lemmas.List.{get_or-map, length-map}
use Rattle.lifetime.proofs.Among.{same_members}
use Rattle.claim_levels.specs.Levels.{AreLeft}
use Rattle.branching.proofs.Words.{Instance, Claim, Entry, buffers_of, HasBuffer, entry_of, is_entry, in_at, next_of, AreLevels, has_level, level_inside}

pub left_some : (levels left : List ℕ) → AreLeft levels left → (i : ℕ) → i < length left →
    0 < slice_index levels (slice_index left i)
left_some levels left a i lt = a.some (slice_index left i) (in_at left i 0 lt)

module _ (I : Instance) (l : Claim) (levels left : List ℕ) (h : AreLevels I l levels) (a : AreLeft levels left) where
  left_is : left ≡ buffers_of l
  left_is = same_members left (buffers_of l) a.rises h.claim.rises
      (λ b i. has_level I l levels h b (a.some b i))
      (λ b i. a.all b (let q = level_inside I l levels h b i in omega arith))

  pub left_count : length left ≡ length l
  left_count = ap length left_is ∙ length-map l (λ (e : Entry). e.0)

  -- the entry at a place
  left_at : (i : ℕ) → i < length l → slice_index_or l i (0, 0) ≡ entry_of l (slice_index left i)
  left_at i lt =
      is_entry l (slice_index_or l i (0, 0)) h.claim.rises (in_at l i (0, 0) lt)
      ∙ ap (entry_of l) (sym (get_or-map (λ (e : Entry). e.0) l i (0, 0) 0 lt)
      ∙ sym (ap (λ (bs : List ℕ). slice_index bs i) left_is))

  pub left_next : (i : ℕ) → i < length left → drop i l ≡ entry_of l (slice_index left i) ∷ drop (i + 1) l
  left_next i lt =
      let n = left_count in
      let within : i < length l = omega arith in
      next_of l i (0, 0) within ∙ ap (λ (x : Entry). x ∷ drop (i + 1) l) (left_at i within)

  pub left_has : (i : ℕ) → i < length left → HasBuffer l (slice_index left i)
  left_has i lt = has_level I l levels h (slice_index left i) (left_some levels left a i lt)

  pub left_past : (i : ℕ) → length left ≤ i → drop i l ≡ []
  left_past i le = drop_of_length-le l (let n = left_count in omega arith)
