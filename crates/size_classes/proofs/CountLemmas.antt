-- A class has as many slots as it has members that are live at one moment, at most.
use Rattle.std.proofs.Common.{◌≡◌, ◌≢◌, ℕ, ◌+◌, ◌<◌, ◌≤◌, inl, inr, true, false, ◌==◌, List, [], ◌∷◌, length, map, refl, arith}
use Rattle.std.specs.List.{AllByRecursion, IsDistinct, list_any}
use Rattle.std.proofs.lemmas.List.{length-map}
use Rattle.std.proofs.lemmas.Map.Steps.{length-le_from_distinct_below}
use Rattle.dsa_terms.specs.Buffers.{Instance, buffer, is_live, IsInstance}
use Rattle.dsa_terms.specs.Bounds.{moments}
use Rattle.dsa_terms.specs.Claims.{IsIn, Rises}
use Rattle.dsa_terms.proofs.Lists.{any_gives, from_filter, from_map, greatest_under, into_map}
use Rattle.dsa_terms.proofs.NumberTests.{apart, equal}
use Rattle.dsa_terms.proofs.Ranges.{rises-filter_numbers}
use Rattle.dsa_search_laws.proofs.Logs.{in_greatest}
use Rattle.size_classes.specs.Slots.{AreMembers, live_among, most_live, slot_count, slot_of}
use Rattle.size_classes.proofs.SlotLemmas.{one_slot_is_apart, slots_are_few}

distinct-map : (f : ℕ → ℕ) (xs : List ℕ) → Rises xs →
    ((b c : ℕ) → IsIn b xs → IsIn c xs → b ≢ c → f b ≢ f c) → IsDistinct (λ (m n : ℕ). m == n) (map f xs)
unfolding IsDistinct
distinct-map f [] r h = tt
distinct-map f (x ∷ xs) r h = (
  others xs (λ y i. h x y (inl refl) (inr i) (λ e. let k = r.0 y i in omega arith)),
  distinct-map f xs r.1 (λ b c i j. h b c (inr i) (inr j)),
)
  where
    others : (ys : List ℕ) → ((y : ℕ) → IsIn y ys → f x ≢ f y) →
        AllByRecursion (λ (y : ℕ). (f x == y) ≡ false) (map f ys)
    others [] g = tt
    others (y ∷ ys) g = (apart (f x) (f y) (g y (inl refl)), others ys (λ z i. g z (inr i)))

pub under_count : (slots : List ℕ) (s : ℕ) → IsIn s slots → s + 1 ≤ slot_count slots
unfolding slot_count
under_count slots s i = in_greatest (λ s. s + 1) slots s i

live_are_few : (I : Instance) (members : List ℕ) (t : ℕ) → IsInstance I → AreMembers I members →
    length (live_among I members t) ≤ slot_count (map (slot_of I members) members)
unfolding live_among
live_are_few I members t s m =
    let e = length-map (live_among I members t) (slot_of I members) in
    let k = length-le_from_distinct_below (map (slot_of I members) (live_among I members t))
    (slot_count (map (slot_of I members) members))
    (distinct-map (slot_of I members) (live_among I members t)
    (rises-filter_numbers (λ b. is_live (buffer I b) t) members m.rises) differ)
    below in omega arith
  where
    known : (b : ℕ) → IsIn b (live_among I members t) → IsIn b members × (is_live (buffer I b) t ≡ true)
    known b i = from_filter (λ b. is_live (buffer I b) t) members b i

    differ : (b c : ℕ) → IsIn b (live_among I members t) → IsIn c (live_among I members t) → b ≢ c →
        slot_of I members b ≢ slot_of I members c
    differ b c i j ne e =
        let p = known b i in let q = known c j in one_slot_is_apart I members b c t s m p.0 q.0 ne e p.1 q.1

    below : (q : ℕ) → list_any (λ n. q == n) (map (slot_of I members) (live_among I members t)) ≡ true →
        q < slot_count (map (slot_of I members) members)
    below q h =
        let r = any_gives (λ n. q == n) (map (slot_of I members) (live_among I members t)) h in
        let w = from_map (slot_of I members) (live_among I members t) r.0 r.1 in
        let u = under_count (map (slot_of I members) members) (slot_of I members w.0)
        (into_map (slot_of I members) members w.0 (known w.0 w.1).0) in
        let e = equal q r.0 r.2 in let f = w.2 in omega arith

pub count_is : (I : Instance) (members slots : List ℕ) → IsInstance I → AreMembers I members →
    slots ≡ map (slot_of I members) members → slot_count slots ≡ most_live I members
unfolding slot_count most_live
count_is I members slots s m e = rw e (close low high)
  where
    low : slot_count (map (slot_of I members) members) ≤ most_live I members
    low = greatest_under (map (λ s. s + 1) (map (slot_of I members) members)) (most_live I members) (λ x i.
        let r = from_map (λ s. s + 1) (map (slot_of I members) members) x i in
        let q = from_map (slot_of I members) members r.0 r.1 in
        let k = slots_are_few I members q.0 s m q.1 in
        let f = r.2 in let g = q.2 in omega arith)

    high : most_live I members ≤ slot_count (map (slot_of I members) members)
    high = greatest_under (map (λ t. length (live_among I members t)) (moments I))
        (slot_count (map (slot_of I members) members)) (λ x i.
        let r = from_map (λ t. length (live_among I members t)) (moments I) x i in
        let k = live_are_few I members r.0 s m in let f = r.2 in omega arith)

    close : {m n : ℕ} → m ≤ n → n ≤ m → m ≡ n
    close p q = omega arith
