-- Seats by the offsets of buffers.
use Rattle.std.proofs.Common.{◌≡◌, ℕ, ◌+◌, ◌<◌, ◌==◌, Bool, true, false, cond, List, [], ◌∷◌, drop, length, map, max, Option, Some, None, slice_index, slice_set, inl, inr, refl, sym, ap, ◌∙◌, arith, ext_get_or, get_or-set_other}
use Rattle.std.specs.List.{list_any}
use Rattle.std.proofs.lemmas.Grind.{get_or-set_at}
use Rattle.std.proofs.lemmas.List.FromFn.{get_or-map-range_with_len, length-map-range_with_len}
use Rattle.search_core.proofs.Words.{Instance, Claim, Entry, IsIn, child, number_of, step, up, offsets_of, choices, first, first_of, first_some, is_tall, not_excluded, seated, some_answer, apart, same, same_or_not, number_of-map, in_child, entry_of}
use Rattle.dsa_search_laws.proofs.Complete.{seated_some}
use Rattle.search_core.specs.Seats.{seat_at, seats_by}

-- a layout without seats is one of no buffers
pub seats_of_none : (I : Instance) (C : ℕ) (l : Claim) → first I C l ≡ Some [] → l ≡ []
unfolding first
seats_of_none I C [] h = refl
seats_of_none I C (x ∷ xs) h = absurd (go (list_any (is_tall I C) (x ∷ xs)) h)
  where
    answer : Entry → Option (List Entry)
    answer e = first_of (not_excluded I) (length xs) I C (child I (x ∷ xs) e)

    go : (t : Bool) →
        cond t None (first_some (λ e. seated I (x ∷ xs) e (answer e)) (choices I (not_excluded I) (x ∷ xs))) ≡ Some [] →
        ⊥
    go true q = absurd cc
    go false q =
        let e = some_answer (λ e. seated I (x ∷ xs) e (answer e)) (choices I (not_excluded I) (x ∷ xs)) [] q in
        let r = seated_some I (x ∷ xs) e.0 (answer e.0) [] e.2 in
        let z = r.2 in
        absurd cc

-- the entries of the claim that are made alike are the same
map_alike : (f g : Entry → Entry) (l : Claim) → ((e : Entry) → IsIn e l → f e ≡ g e) → map f l ≡ map g l
map_alike f g [] h = refl
map_alike f g (x ∷ xs) h = rw (h x (inl refl), map_alike f g xs (λ e i. h e (inr i))) refl

-- the seats, made of the entries
from_entries : (offsets : List ℕ) (l : Claim) → map (λ (e : Entry). seat_at offsets e.0) l ≡ seats_by offsets l
from_entries offsets [] = refl
from_entries offsets (x ∷ xs) = ap (λ (es : List Entry). seat_at offsets x.0 ∷ es) (from_entries offsets xs)

-- the seats of a child, with b at its low, are those of the claim
pub seated_by : (I : Instance) (l : Claim) (offsets : List ℕ) (b low : ℕ) → b < length offsets →
    low ≡ up I (entry_of l b) →
    seated I l (entry_of l b) (Some (seats_by offsets (child I l (entry_of l b))))
    ≡ Some (seats_by (slice_set offsets b low) l)
seated_by I l offsets b low lt q =
    ap Some (map_alike
    (λ (f : Entry). let seat : Entry = (f.0, cond (f.0 == b) (up I (entry_of l b)) (number_of seats f.0)) in seat)
    (λ (f : Entry). seat_at (slice_set offsets b low) f.0) l
    (λ f i. ap (λ (n : ℕ). let seat : Entry = (f.0, n) in seat) (same_offset f i))
    ∙ from_entries (slice_set offsets b low) l)
  where
    seats : List Entry
    seats = seats_by offsets (child I l (entry_of l b))

    same_offset : (f : Entry) → IsIn f l →
        cond (f.0 == b) (up I (entry_of l b)) (number_of seats f.0) ≡ slice_index (slice_set offsets b low) f.0
    same_offset f i = elim (same_or_not f.0 b) [
      | inl e ↦ rw (same f.0 b e) (sym q ∙ sym (get_or-set_at offsets b f.0 low 0 e lt))
      | inr ne ↦
          let m = max (up I f) (up I (entry_of l b) + step I b f.0) in
          rw (apart f.0 b ne)
          (ap (λ (es : List Entry). number_of es f.0) (sym (from_entries offsets (child I l (entry_of l b))))
          ∙ number_of-map (slice_index offsets) (child I l (entry_of l b)) (f.0, m)
          (in_child I l (entry_of l b) f i ne)
          ∙ sym (get_or-set_other offsets b f.0 low 0 ne))
    ]

-- offsets that are each buffer's number in the seats
pub offsets_are : (I : Instance) (seats : List Entry) (offsets : List ℕ) (i : ℕ) → i ≡ 0 → length offsets ≡ length I →
    ((b : ℕ) → b < length I → slice_index offsets b ≡ number_of (drop i seats) b) → offsets ≡ offsets_of I seats
offsets_are I seats offsets i z n h =
    ext_get_or 0 offsets (offsets_of I seats)
    (n ∙ sym (length-map-range_with_len (number_of seats) 0 (length I)))
    (λ b lt.
    let within : b < length I = omega arith in
    h b within ∙ ap (λ (i : ℕ). number_of (drop i seats) b) z ∙ ap (λ (es : List Entry). number_of es b) (all seats)
    ∙ sym (get_or-map-range_with_len (number_of seats) 0 (length I) b b 0 within (omega arith)))
  where
    all : (xs : List Entry) → drop 0 xs ≡ xs
    all [] = refl
    all (x ∷ xs) = refl
