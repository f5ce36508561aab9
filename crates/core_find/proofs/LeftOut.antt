-- Layouts out of which the item at one place is taken, one layout after another.
use Rattle.std.proofs.Common.{◌≡◌, ◌≢◌, ℕ, ◌+◌, ◌-◌, ◌<◌, ◌≤◌, ◌⊎◌, inl, inr, List, [], length, map, slice_index_or, slice_set, refl, sym, ap, ◌∙◌, arith}
use Rattle.std.proofs.lemmas.List.{ext_get_or, get_or-map, get_or-set_other, get_or-set_same, length-map, length-set}
use Rattle.std.specs.List.{remove}
use Rattle.dsa_terms.proofs.NumberTests.{below_or_last}

-- the first n of the new lists are the old ones without the item before `place`, and the others are as they were
pub record AreLeftOut (old new : List (List ℕ)) (place n : ℕ) : Type 0 where
  pub count : length new ≡ length old
  pub done : (k : ℕ) → k < n → slice_index_or new k [] ≡ remove (slice_index_or old k []) (place - 1)
  pub others : (k : ℕ) → n ≤ k → slice_index_or new k [] ≡ slice_index_or old k []

pub none_left_out : (old : List (List ℕ)) (place : ℕ) → AreLeftOut old old place 0
none_left_out old place = record { count = refl; done = λ k lt. absurd (omega arith); others = λ k le. refl }

pub left_out_next : (old new : List (List ℕ)) (item : List ℕ) (place n : ℕ) → n < length old →
    item ≡ remove (slice_index_or new n []) (place - 1) → AreLeftOut old new place n →
    AreLeftOut old (slice_set new n item) place (n + 1)
left_out_next old new item place n lt is h = record {
  count = length-set new n item ∙ h.count;
  done = λ k lk. done k (below_or_last k n lk);
  others = λ k le. get_or-set_other new n k item [] (apart k le) ∙ h.others k (omega (arith, le));
}
  where
    apart : (k : ℕ) → n + 1 ≤ k → k ≢ n
    apart k le = grind arith

    before : (k : ℕ) → k < n → k ≢ n
    before k l = grind arith

    done : (k : ℕ) → (k < n) ⊎ (k ≡ n) →
        slice_index_or (slice_set new n item) k [] ≡ remove (slice_index_or old k []) (place - 1)
    done k (inl l) = get_or-set_other new n k item [] (before k l) ∙ h.done k l
    done k (inr q) =
        rw q (get_or-set_same new n item [] (rw h.count lt) ∙ is
        ∙ ap (λ (xs : List ℕ). remove xs (place - 1)) (h.others n (omega arith)))

pub all_left_out : (old new : List (List ℕ)) (place n : ℕ) → length old ≤ n → AreLeftOut old new place n →
    new ≡ map (λ (rest : List ℕ). remove rest (place - 1)) old
all_left_out old new place n end h =
    ext_get_or [] new (map (λ (rest : List ℕ). remove rest (place - 1)) old) (h.count ∙ sym (length-map old _))
    (λ k lt. let there : k < length old = rw (← h.count) lt in
    h.done k (omega (arith, end, there))
    ∙ sym (get_or-map (λ (rest : List ℕ). remove rest (place - 1)) old k [] [] there))
