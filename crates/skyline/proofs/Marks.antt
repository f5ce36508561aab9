-- Marks of the members so far, and what a new skyline keeps.
use Rattle.std.proofs.Common.{Vec, Global, ◌≡◌, ◌≢◌, ◌⊎◌, inl, inr, ◌+◌, ◌<◌, ◌≤◌, ◌↔◌, ℕ, Bool, true, false, List, [], ◌∷◌, ◌++◌, length, map, take, replicate, slice_index, slice_index_or, slice_set, refl, ap, sym, subst, ◌∙◌, arith, vec_len}
use Rattle.std.specs.List.{All}
use Rattle.std.proofs.lemmas.List.{take_more, get_or-set_other, get_or-set_same, get_or_default, length-map}
use Rattle.std.proofs.Math.ListN.{get_or-map}
use Rattle.dsa_terms.specs.Buffers.{Instance}
use Rattle.dsa_terms.specs.Claims.{IsIn, Rises}
use Rattle.dsa_terms.proofs.NumberTests.{same_or_not}
use Rattle.dsa_search_laws.proofs.Members.{buffers_of-whole}
use Rattle.dsa_model.specs.Buffer.{IsBuffer, buffer_limit}
use Rattle.dsa_model.specs.Lists.{items_of}
use Rattle.lifetime.specs.SectionList.{count_of, sections_of, AreSectionsOf, SectionList}
use Rattle.skyline.specs.Skylines.{IsSkyline}

in_append : (xs : List ℕ) (y c : ℕ) → IsIn c (xs ++ y ∷ []) → IsIn c xs ⊎ (c ≡ y)
in_append [] y c (inl e) = inr e
in_append [] y c (inr i) = absurd i
in_append (x ∷ xs) y c (inl e) = inl (inl e)
in_append (x ∷ xs) y c (inr i) = elim (in_append xs y c i) [ inl j ↦ inl (inr j) | inr e ↦ inr e ]

into_append : (xs : List ℕ) (y c : ℕ) → IsIn c xs ⊎ (c ≡ y) → IsIn c (xs ++ y ∷ [])
into_append [] y c (inl i) = absurd i
into_append [] y c (inr e) = inl e
into_append (x ∷ xs) y c (inl (inl e)) = inl e
into_append (x ∷ xs) y c (inl (inr i)) = inr (into_append xs y c (inl i))
into_append (x ∷ xs) y c (inr e) = inr (into_append xs y c (inr e))

pub marked-more : (marks : List Bool) (ms : List ℕ) (i n : ℕ) → i < length ms → slice_index ms i < n →
    length marks ≡ n →
    ((c : ℕ) → c < n → (slice_index_or marks c false ≡ true) ↔ IsIn c (take i ms)) →
    (c : ℕ) → c < n → (slice_index_or (slice_set marks (slice_index ms i) true) c false ≡ true) ↔ IsIn c
    (take (i + 1) ms)
marked-more marks ms i n li lt len h c lc =
    subst (λ (xs : List ℕ). (slice_index_or (slice_set marks (slice_index ms i) true) c false ≡ true) ↔ IsIn c xs)
    (sym (take_more ms i 0 li)) (there, back)
  where
    there : slice_index_or (slice_set marks (slice_index ms i) true) c false ≡ true →
        IsIn c (take i ms ++ slice_index ms i ∷ [])
    there q = go (same_or_not c (slice_index ms i))
      where
        go : (c ≡ slice_index ms i) ⊎ (c ≢ slice_index ms i) → IsIn c (take i ms ++ slice_index ms i ∷ [])
        go (inl e) = into_append (take i ms) (slice_index ms i) c (inr e)
        go (inr ne) = into_append (take i ms) (slice_index ms i) c
            (inl ((h c lc).0 (sym (get_or-set_other marks (slice_index ms i) c true false ne) ∙ q)))

    back : IsIn c (take i ms ++ slice_index ms i ∷ []) →
        slice_index_or (slice_set marks (slice_index ms i) true) c false ≡ true
    back j = go (same_or_not c (slice_index ms i)) (in_append (take i ms) (slice_index ms i) c j)
      where
        go : (c ≡ slice_index ms i) ⊎ (c ≢ slice_index ms i) → IsIn c (take i ms) ⊎ (c ≡ slice_index ms i) →
            slice_index_or (slice_set marks (slice_index ms i) true) c false ≡ true
        go (inl e) k = ap (λ x. slice_index_or (slice_set marks (slice_index ms i) true) x false) e
            ∙ get_or-set_same marks (slice_index ms i) true false (omega (arith, len))
        go (inr ne) (inl k) = get_or-set_other marks (slice_index ms i) c true false ne ∙ (h c lc).1 k
        go (inr ne) (inr e) = absurd (ne e)

-- the fields of a new skyline
pub new_sky : (I : Instance) (S : SectionList) (members stack ledges hs : List ℕ) (saved : List (Vec ℕ Global))
    (flags : List Bool) →
    All IsBuffer I → length I ≤ buffer_limit → AreSectionsOf I S → All (λ b. b < length I) members → Rises members →
    length stack ≡ length members → length ledges ≡ length members → hs ≡ replicate (count_of S) 0 →
    length saved ≡ length I →
    ((b : ℕ) (d : Vec ℕ Global) → b < length I → slice_index_or flags b false ≡ true →
    vec_len (slice_index_or saved b d) ≡ length (sections_of S b)) →
    length flags ≡ length I → ((c : ℕ) → c < length I → (slice_index_or flags c false ≡ true) ↔ IsIn c members) →
    IsSkyline I S members 0 stack ledges hs (map items_of saved) flags
new_sky I S members stack ledges hs saved flags buffers count belongs range rise stacks ledge_room heights rows rooms
    flag_count marks = record {
      depth = omega arith;
      stack_room = stacks;
      ledge_room = ledge_room;
      carries = record {
        buffers = buffers;
        count = count;
        belongs = belongs;
        in_range = range;
        rise = rise;
        stands = tt;
        offsets = refl;
        heights = heights;
        saved = tt;
        saved_count = length-map saved items_of ∙ rows;
        saved_room = λ b lt m. room saved rows b lt (λ d. rooms b d lt ((marks b lt).1 m));
        free_count = flag_count;
        free = λ c l. subst (λ (xs : List ℕ). (slice_index_or flags c false ≡ true) ↔ IsIn c xs)
            (sym (buffers_of-whole I members)) (marks c l);
      };
    }
  where
    room : (saved : List (Vec ℕ Global)) → length saved ≡ length I → (b : ℕ) → b < length I →
        ((d : Vec ℕ Global) → vec_len (slice_index_or saved b d) ≡ length (sections_of S b)) →
        length (slice_index_or (map items_of saved) b []) ≡ length (sections_of S b)
    room [] rows b lt here = absurd (omega arith)
    room (v ∷ vs) rows b lt here =
        ap length (get_or_default (map items_of (v ∷ vs)) b [] (items_of v)
        (omega (arith, length-map (v ∷ vs) items_of, lt)) ∙ get_or-map items_of (v ∷ vs) b v)
        ∙ sym (slice_index_or (v ∷ vs) b v).ok.0 ∙ here v
