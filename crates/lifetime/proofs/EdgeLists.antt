-- The edges of all buffers, put into order.
use Rattle.std.proofs.Common.{◌≡◌, ℕ, ◌+◌, ◌*◌, ◌<◌, ◌≤◌, inl, inr, List, [], ◌∷◌, ◌++◌, length, map, drop, slice_index_or, refl, sym, ap, ◌∙◌, subst, arith, append_assoc, length-append, append-nil}
use Rattle.std.specs.List.Sorted.{IsNonDecreasingBy, IsPermutation}
use Rattle.std.proofs.lemmas.List.{length-map, drop_all, drop_more}
use Rattle.std.proofs.lemmas.List.Sorted.{All-permutation, Contains-permutation, length_permutation}
use Rattle.dsa_terms.specs.Buffers.{Buffer, Instance, buffer}
use Rattle.dsa_terms.specs.Claims.{IsIn}
use Rattle.dsa_terms.proofs.Lists.{from_append, from_map, into_map, left_append, right_append}
use Rattle.dsa_terms.proofs.Places.{all_from_in, from_contains, to_contains}
use Rattle.dsa_terms.proofs.NumberTests.{below_or_last}
use Rattle.dsa_model.specs.Buffer.{gap_limit}
use Rattle.lifetime.specs.Edges.{AreEdges, edge_moments, edges_of, gap_ends}

-- the edges of the buffers below n
pub record AreEdgesBelow (I : Instance) (n : ℕ) (edges : List (ℕ × ℕ)) : Type 0 where
  pub in_range : (e : ℕ × ℕ) → IsIn e edges → e.1 < n
  pub complete : (b t : ℕ) → b < n → IsIn t (edge_moments (buffer I b)) → IsIn (t, b) edges
  pub limit : length edges ≤ (2 + 2 * gap_limit) * n

length-gap_ends : (gaps : List (ℕ × ℕ)) → length (gap_ends gaps) ≡ 2 * length gaps
length-gap_ends [] = refl
length-gap_ends (g ∷ gs) = let k = length-gap_ends gs in omega arith

few_edges : (x : Buffer) (b : ℕ) → length x.gaps ≤ gap_limit → length (edges_of x b) ≤ 2 + 2 * gap_limit
few_edges x b le =
    let k = length-gap_ends x.gaps in
    let m : length (edges_of x b) ≡ length (edge_moments x) = length-map (edge_moments x) (λ t. (t, b)) in
    rw m (omega arith)

pub more_below : (I : Instance) (n : ℕ) (x : Buffer) (edges more : List (ℕ × ℕ)) → AreEdgesBelow I n edges →
    x ≡ buffer I n → length x.gaps ≤ gap_limit → more ≡ edges ++ edges_of x n →
    AreEdgesBelow I (n + 1) more
more_below I n x edges more h e few m = rw m (record {
  in_range = in_range;
  complete = complete;
  limit = let k = few_edges x n few in let z = h.limit in let w = length-append edges (edges_of x n) in omega arith;
})
  where
    in_range : (f : ℕ × ℕ) → IsIn f (edges ++ edges_of x n) → f.1 < n + 1
    in_range f i = elim (from_append edges (edges_of x n) f i) [
      | inl j ↦ let k = h.in_range f j in omega arith
      | inr j ↦ let r = from_map (λ t. (t, n)) (edge_moments x) f j in let k : f.1 ≡ n = ap (λ (f : ℕ × ℕ). f.1) r.2 in
          omega arith
    ]

    complete : (b t : ℕ) → b < n + 1 → IsIn t (edge_moments (buffer I b)) → IsIn (t, b) (edges ++ edges_of x n)
    complete b t lt i = elim (below_or_last b n lt) [
      | inl k ↦ left_append edges (edges_of x n) (t, b) (h.complete b t k i)
      | inr k ↦ right_append edges (edges_of x n) (t, b) (own k)
    ]
      where
        own : b ≡ n → IsIn (t, b) (edges_of x n)
        own k = subst (λ (c : ℕ). IsIn (t, c) (edges_of x n)) (sym k)
            (into_map (λ t. (t, n)) (edge_moments x) t
            (subst (λ (y : Buffer). IsIn t (edge_moments y)) (ap (buffer I) k ∙ sym e) i))

pub sorted_edges : (I : Instance) (n : ℕ) (edges sorted : List (ℕ × ℕ)) → AreEdgesBelow I n edges → n ≡ length I →
    IsPermutation edges sorted →
    IsNonDecreasingBy (λ (e : ℕ × ℕ). e.0) sorted → AreEdges I sorted
sorted_edges I n edges sorted h e p up = record {
  sorted = up;
  in_range = All-permutation (λ (e : ℕ × ℕ). e.1 < length I) edges sorted p
      (all_from_in (λ (e : ℕ × ℕ). e.1 < length I) edges (λ f i. let k = h.in_range f i in omega arith));
  complete = λ b t lt i. from_contains sorted (t, b) (Contains-permutation edges sorted (t, b) p
      (to_contains edges (t, b) (h.complete b t (omega arith) i)));
  limit = let k = length_permutation edges sorted p in let z = h.limit in omega arith;
}

-- ---- one buffer's edges, one after another
pub gap_step : (edges : List (ℕ × ℕ)) (given gaps : List (ℕ × ℕ)) (i b : ℕ) (one two whole : List (ℕ × ℕ)) →
    given ≡ gaps → i < length given →
    whole ≡ edges ++ map (λ t. (t, b)) (gap_ends (drop i gaps)) →
    one ≡ edges ++ ((slice_index_or given i (0, 0)).0, b) ∷ [] →
    two ≡ one ++ ((slice_index_or given i (0, 0)).1, b) ∷ [] →
    whole ≡ two ++ map (λ t. (t, b)) (gap_ends (drop (i + 1) gaps))
gap_step edges given gaps i b one two whole same lt h e f =
    h ∙ (ap (λ gs. edges ++ map (λ t. (t, b)) (gap_ends gs))
    (drop_more gaps i (0, 0) (subst (λ (gs : List (ℕ × ℕ)). i < length gs) same lt))
    ∙ rw (f, e, same) (sym (append_assoc (edges ++ (gap.0, b) ∷ []) ((gap.1, b) ∷ []) rest ∙ append_assoc edges
    ((gap.0, b) ∷ []) ((gap.1, b) ∷ rest))))
  where
    gap : ℕ × ℕ
    gap = slice_index_or gaps i (0, 0)

    rest : List (ℕ × ℕ)
    rest = map (λ t. (t, b)) (gap_ends (drop (i + 1) gaps))

pub gap_first : (edges one two : List (ℕ × ℕ)) (x : Buffer) (b low up : ℕ) → low ≡ x.lower → up ≡ x.upper →
    one ≡ edges ++ (low, b) ∷ [] → two ≡ one ++ (up, b) ∷ [] →
    edges ++ edges_of x b ≡ two ++ map (λ t. (t, b)) (gap_ends (drop 0 x.gaps))
gap_first edges one two x b low up l u e f =
    rw (f, e, l, u) (sym (append_assoc (edges ++ (x.lower, b) ∷ []) ((x.upper, b) ∷ []) rest ∙ append_assoc edges
    ((x.lower, b) ∷ []) ((x.upper, b) ∷ rest)))
  where
    rest : List (ℕ × ℕ)
    rest = map (λ t. (t, b)) (gap_ends x.gaps)

pub gap_last : (edges whole : List (ℕ × ℕ)) (gaps : List (ℕ × ℕ)) (i b : ℕ) → length gaps ≤ i →
    whole ≡ edges ++ map (λ t. (t, b)) (gap_ends (drop i gaps)) → edges ≡ whole
gap_last edges whole gaps i b le h = sym (h ∙ (ap (λ gs. edges ++ map (λ t. (t, b)) (gap_ends gs)) (drop_all i gaps le)
    ∙ append-nil edges))
