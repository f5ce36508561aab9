-- Numbers in order of a measure, and the first buffers of the parts in order of time.
use Rattle.std.proofs.Common.{◌≡◌, ℕ, ◌<◌, ◌≤◌, ◌≢◌, inl, inr, Bool, true, false, cond, nat_lt, List, [], ◌∷◌, length, map, refl, sym, ap, ◌∙◌, arith}
use Rattle.dsa_terms.specs.Buffers.{Instance, buffer}
use Rattle.dsa_terms.specs.Claims.{IsIn, Rises}
use Rattle.dsa_terms.specs.Parts.{numbers, is_leader}
use Rattle.dsa_terms.specs.Sorts.{ordered_by, put_by}
use Rattle.dsa_terms.proofs.Lists.{from_map, from_put_by, from_ordered_by}
use Rattle.dsa_terms.proofs.NumberTests.{less, not_less, below_or_from}
use Rattle.dsa_terms.proofs.Ranges.{rises-range, rises-filter_numbers}
use Rattle.dsa_search_laws.specs.PartsByTime.{last_cut, start_of}
use Rattle.dsa_search_laws.proofs.Cuts.{last_cut_le, last_cut_is, last_cut_is_greatest}
use Rattle.dsa_search_laws.proofs.Uncut.{firsts, in_time, is_earlier, from_firsts, firsts_are_one}

-- the measure never falls along the list, and no number comes twice
abbrev pub GoesUp : (ℕ → ℕ) → List ℕ → Type 0
GoesUp m [] = Unit {0}
GoesUp m (x ∷ xs) = ((y : ℕ) → IsIn y xs → (m x ≤ m y) × (x ≢ y)) × GoesUp m xs

put_goes_up : (m : ℕ → ℕ) (x : ℕ) (ys : List ℕ) → ((y : ℕ) → IsIn y ys → x ≢ y) → GoesUp m ys →
    GoesUp m (put_by (λ b c. nat_lt (m b) (m c)) x ys)
put_goes_up m x [] n g = ((λ y i. absurd i), tt)
put_goes_up m x (y ∷ ys) n g = go (put_goes_up m x ys (λ z i. n z (inr i)) g.1) (nat_lt (m x) (m y)) refl
  where
    later : m x < m y → (z : ℕ) → IsIn z (y ∷ ys) → m x ≤ m z
    later lt z (inl q) = let e = ap m q in omega arith
    later lt z (inr j) = let k = (g.0 z j).0 in omega arith

    passed : m y ≤ m x → (z : ℕ) → IsIn z (x ∷ ys) → (m y ≤ m z) × (y ≢ z)
    passed le z (inl q) = ((let e = ap m q in omega arith), λ e. n y (inl refl) (sym (e ∙ q)))
    passed le z (inr j) = g.0 z j

    go : GoesUp m (put_by (λ b c. nat_lt (m b) (m c)) x ys) → (b : Bool) → nat_lt (m x) (m y) ≡ b →
        GoesUp m (cond b (x ∷ y ∷ ys) (y ∷ put_by (λ b c. nat_lt (m b) (m c)) x ys))
    go ih true e = ((λ z i. (later (less (m x) (m y) e) z i, n z i)), g)
    go ih false e = (
      (λ z i. passed (not_less (m x) (m y) e) z (from_put_by (λ b c. nat_lt (m b) (m c)) x ys z i)),
      ih,
    )

ordered_goes_up : (m : ℕ → ℕ) (xs : List ℕ) → Rises xs → GoesUp m (ordered_by (λ b c. nat_lt (m b) (m c)) xs)
ordered_goes_up m [] r = tt
ordered_goes_up m (x ∷ xs) r = put_goes_up m x (ordered_by (λ b c. nat_lt (m b) (m c)) xs)
    (λ y i. less_is_apart x y (r.0 y (from_ordered_by (λ b c. nat_lt (m b) (m c)) xs y i)))
    (ordered_goes_up m xs r.1)
  where
    less_is_apart : (x y : ℕ) → x < y → x ≢ y
    less_is_apart x y lt e = omega arith

pub in_time_goes_up : (I : Instance) → GoesUp (λ b. (buffer I b).lower) (in_time I)
in_time_goes_up I = ordered_goes_up (λ b. (buffer I b).lower) (firsts I)
    (rises-filter_numbers (is_leader I) (numbers (length I)) (rises-range (length I) 0))

pub in_time_are_firsts : (I : Instance) (b : ℕ) → IsIn b (in_time I) → (b < length I) × (is_leader I b ≡ true)
in_time_are_firsts I b i = from_firsts I b (from_ordered_by (is_earlier I) (firsts I) b i)

-- ---- their parts begin at rising cuts
start_grows : (I : Instance) (b c : ℕ) → (buffer I b).lower ≤ (buffer I c).lower → start_of I b ≤ start_of I c
unfolding start_of
start_grows I b c le = last_cut_is_greatest I (buffer I c).lower (last_cut I (buffer I b).lower)
    (last_cut_is I (buffer I b).lower) (let k = last_cut_le I (buffer I b).lower in omega arith)

pub starts_rise : (I : Instance) (bs : List ℕ) →
    ((b : ℕ) → IsIn b bs → (b < length I) × (is_leader I b ≡ true)) → GoesUp (λ b. (buffer I b).lower) bs →
    Rises (map (start_of I) bs)
starts_rise I [] f g = tt
starts_rise I (b ∷ bs) f g = (later, starts_rise I bs (λ c i. f c (inr i)) g.1)
  where
    first : (b < length I) × (is_leader I b ≡ true)
    first = f b (inl refl)

    grows : (c : ℕ) → IsIn c bs → start_of I b < start_of I c
    grows c i = elim (below_or_from (start_of I b) (start_of I c)) [
      | inl lt ↦ lt
      | inr le ↦ absurd ((g.0 c i).1 (firsts_are_one I b c first.1 (f c (inr i)).1 first.0 (f c (inr i)).0
          (let k = start_grows I b c (g.0 c i).0 in omega arith)))
    ]

    later : (t : ℕ) → IsIn t (map (start_of I) bs) → start_of I b < t
    later t i = let r = from_map (start_of I) bs t i in rw r.2 (grows r.0 r.1)
