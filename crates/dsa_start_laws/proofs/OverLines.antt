-- The one line of a stack: it is legal just where the pile on its height is above the capacity.
use Rattle.std.proofs.Common.{◌≡◌, ℕ, ◌+◌, ◌-◌, ◌%◌, ◌<◌, ◌≤◌, ◌≢◌, inl, inr, Bool, true, ◌&&◌, ◌==◌, List, [], ◌∷◌, map, length, filter, nat_le, sym, refl, ap, ◌∙◌, subst, arith}
use Rattle.dsa_terms.specs.Buffers.{Instance, buffer, is_live, floor}
use Rattle.dsa_terms.specs.Claims.{Claim, Entry, IsIn, IsClaim, IsWhole, buffers_of, up}
use Rattle.dsa_terms.specs.Logs.{is_stacked, stack_height, IsOver, Line, claim_of, IsLegal}
use Rattle.dsa_terms.specs.Parts.{numbers}
use Rattle.dsa_terms.specs.Bounds.{line_height, stack_line}
use Rattle.dsa_terms.proofs.Lists.{from_map}
use Rattle.dsa_terms.proofs.Moments.{both_true}
use Rattle.dsa_terms.proofs.Numbers.{next_at_or_above, next_is_multiple, next_is_least}
use Rattle.dsa_terms.proofs.NumberTests.{is_at_most}
use Rattle.dsa_terms.proofs.Ranges.{rises-range, rises-filter_numbers}
use Rattle.dsa_start_laws.specs.Piles.{counted_buffers, pile}
use Rattle.dsa_start_laws.proofs.Piles.{in_counted, height_of_bounds, line_height_is_pile, stack_line_is_pile}

-- ---- the claim that gives each of some buffers one bound
abbrev pub all_at_bound : ℕ → List ℕ → Claim
all_at_bound h p = map (λ b. (b, h)) p

buffers_at_bound : (h : ℕ) (p : List ℕ) → buffers_of (all_at_bound h p) ≡ p
buffers_at_bound h [] = refl
buffers_at_bound h (x ∷ xs) = ap (λ ys. x ∷ ys) (buffers_at_bound h xs)

pub in_bound : (h : ℕ) (p : List ℕ) (e : Entry) → IsIn e (all_at_bound h p) → IsIn e.0 p × (e.1 ≡ h)
in_bound h p e i = let r = from_map (λ (b : ℕ). let f : Entry = (b, h) in f) p e i in
    (subst (λ (c : ℕ). IsIn c p) (sym (ap (λ (e : Entry). e.0) r.2)) r.1, ap (λ (e : Entry). e.1) r.2)

counted_claim : (I : Instance) (t H G h : ℕ) → IsClaim I (all_at_bound h (counted_buffers I t H G))
unfolding counted_buffers
counted_claim I t H G h = record {
  rises = rw (buffers_at_bound h (counted_buffers I t H G)) (rises-filter_numbers
      (λ b. is_live (buffer I b) t && nat_le H (floor (buffer I b)) && ((buffer I b).alignment % G == 0))
      (numbers (length I)) (rises-range (length I) 0));
  in_range = λ e i. (in_counted I t H G e.0 (in_bound h (counted_buffers I t H G) e i).0).0;
}

-- all of them are stacked at t from that bound on
all_pass : {X : Type 0} (p : X → Bool) (xs : List X) → ((x : X) → IsIn x xs → p x ≡ true) → filter p xs ≡ xs
all_pass p [] h = refl
all_pass p (x ∷ xs) h = rw (h x (inl refl)) (ap (λ ys. x ∷ ys) (all_pass p xs (λ y i. h y (inr i))))

bound_to_up : (I : Instance) (e : Entry) → e.1 ≤ up I e
unfolding up
bound_to_up I e = omega arith

all_stacked : (I : Instance) (t H G h : ℕ) →
    filter (is_stacked I t h G) (all_at_bound h (counted_buffers I t H G)) ≡ all_at_bound h (counted_buffers I t H G)
unfolding is_stacked
all_stacked I t H G h = all_pass (is_stacked I t h G) (all_at_bound h (counted_buffers I t H G)) passes
  where
    passes : (e : Entry) → IsIn e (all_at_bound h (counted_buffers I t H G)) →
        (is_live (buffer I e.0) t && nat_le h (up I e) && ((buffer I e.0).alignment % G == 0)) ≡ true
    passes e i =
        let b = in_bound h (counted_buffers I t H G) e i in
        let r = in_counted I t H G e.0 b.0 in
        let u = bound_to_up I e in
        let q = b.1 in
        both_true (is_live (buffer I e.0) t && nat_le h (up I e)) ((buffer I e.0).alignment % G == 0)
        (both_true (is_live (buffer I e.0) t) (nat_le h (up I e)) r.1 (is_at_most h (up I e) (omega arith))) r.3

-- what is over from h on is h with the pile
over_pile : (I : Instance) (t H G h : ℕ) →
    stack_height I h G (filter (is_stacked I t h G) (all_at_bound h (counted_buffers I t H G))) ≡ h + pile I t H G
unfolding pile
over_pile I t H G h =
    rw (all_stacked I t H G h) (height_of_bounds I h G (λ b. h) (counted_buffers I t H G))

-- ---- its line is legal just where it is over
no_map : (h : ℕ) (p : List ℕ) → p ≢ [] → all_at_bound h p ≢ []
no_map h [] n e = n refl
no_map h (b ∷ bs) n e = cc

pub line_is_over : (I : Instance) (t H G h C : ℕ) → 1 ≤ G → h % G ≡ 0 → counted_buffers I t H G ≢ [] →
    C < h + pile I t H G → IsOver I C t h G (all_at_bound h (counted_buffers I t H G))
line_is_over I t H G h C pos m some lt = record {
  modulus = pos;
  from_multiple = m;
  some_stacked = rw (all_stacked I t H G h) (no_map h (counted_buffers I t H G) some);
  too_high = (let e = over_pile I t H G h in omega arith);
}

pub line_is_legal : (I : Instance) (t H G h C : ℕ) (earlier : List Line) → 1 ≤ G → h % G ≡ 0 →
    counted_buffers I t H G ≢ [] → C < h + pile I t H G → IsLegal I C earlier (stack_line I t H G h)
line_is_legal I t H G h C earlier pos m some lt =
    subst (λ (line : Line). IsLegal I C earlier line) (sym (stack_line_is_pile I t H G h)) (record {
      claim = counted_claim I t H G h;
      not_empty = no_map h (counted_buffers I t H G) some;
      reason = line_is_over I t H G h C pos m some lt;
    })

pub legal_is_over : (I : Instance) (t H G h C : ℕ) (earlier : List Line) →
    IsLegal I C earlier (stack_line I t H G h) → (1 ≤ G) × (h % G ≡ 0) × (C < h + pile I t H G)
legal_is_over I t H G h C earlier l =
    let o = (subst (λ (line : Line). IsLegal I C earlier line) (stack_line_is_pile I t H G h) l).reason in
    (o.modulus, o.from_multiple, (let k = o.too_high in let e = over_pile I t H G h in omega arith))

-- ---- the least height with which it is legal
pub height_is_over : (I : Instance) (t H G C : ℕ) → 1 ≤ G → C < line_height I t H G C + pile I t H G
height_is_over I t H G C pos =
    let e = line_height_is_pile I t H G C in let k = next_at_or_above (C + 1 - pile I t H G) G pos in omega arith

pub height_is_multiple : (I : Instance) (t H G C : ℕ) → 1 ≤ G → line_height I t H G C % G ≡ 0
height_is_multiple I t H G C pos =
    ap (λ n. n % G) (line_height_is_pile I t H G C) ∙ next_is_multiple (C + 1 - pile I t H G) G pos

pub height_is_least : (I : Instance) (t H G C h : ℕ) → 1 ≤ G → h % G ≡ 0 → C < h + pile I t H G →
    line_height I t H G C ≤ h
height_is_least I t H G C h pos m lt =
    let e = line_height_is_pile I t H G C in
    let k = next_is_least (C + 1 - pile I t H G) G h pos (omega arith) m in
    omega arith

pub legal_height : (I : Instance) (t H G C h : ℕ) (earlier : List Line) →
    IsLegal I C earlier (stack_line I t H G h) → line_height I t H G C ≤ h
legal_height I t H G C h earlier l =
    let o = legal_is_over I t H G h C earlier l in height_is_least I t H G C h o.0 o.1 o.2

-- what its claim has is counted, with that bound
pub in_line : (I : Instance) (t H G h : ℕ) (e : Entry) → IsIn e (claim_of (stack_line I t H G h)) →
    IsIn e.0 (counted_buffers I t H G) × (e.1 ≡ h)
in_line I t H G h e i = in_bound h (counted_buffers I t H G) e
    (subst (λ (line : Line). IsIn e (claim_of line)) (stack_line_is_pile I t H G h) i)

-- a line that is no higher than what it counts from is whole
pub line_is_whole : (I : Instance) (t H G h : ℕ) → h ≤ H → IsWhole I (claim_of (stack_line I t H G h))
line_is_whole I t H G h le e i =
    let b = in_line I t H G h e i in
    let r = (in_counted I t H G e.0 b.0).2 in
    let q = b.1 in
    omega arith
