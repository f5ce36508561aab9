-- Covering, larger capacities, and legal lines.
use Rattle.std.proofs.Common.{◌≡◌, ℕ, zero, suc, ◌+◌, ◌-◌, ◌%◌, ◌<◌, ◌≤◌, ◌≢◌, ◌⊎◌, inl, inr, true, false, ◌&&◌, ◌==◌, List, [], ◌∷◌, map, length, filter, slice_get, take, nat_le, Some, sym, refl, ap, ◌∙◌, arith, slice_index}
use Rattle.std.specs.List.{AllZip}
use Rattle.dsa_terms.specs.Buffers.{Instance, buffer, is_live, IsLive, IsInstance, floor}
use Rattle.dsa_terms.specs.Layouts.{IsApart, IsMultiple, IsLayout, IsFeasible, IsInfeasible}
use Rattle.dsa_terms.specs.Claims.{Entry, Claim, IsIn, Rises, buffers_of, IsClaim, up, Places, IsRefuted, child, Covers, number_of}
use Rattle.dsa_terms.specs.Logs.{is_stacked, rounded, rounding, greatest, IsOver, ends_below, is_twin, Cite, ByLine, Below, Twin, Line, Over, Cases, claim_of, IsLegalCite, IsLegalReason, IsLegal, Log, IsAccepted}
use Rattle.dsa_terms.proofs.Numbers.{multiple_along, next_is_least, room_for_rounded}
use Rattle.dsa_search_laws.proofs.Packing.{Disjoint, pack}
use Rattle.dsa_terms.proofs.Lists.{from_filter, none_passes}
use Rattle.dsa_terms.proofs.Moments.{and_true, sound}
use Rattle.dsa_terms.proofs.NumberTests.{at_most, equal}
use Rattle.dsa_search_laws.specs.Placements.{AreRefuted}
use Rattle.dsa_search_laws.proofs.Placing.{in_buffers, above_up, up_is_multiple, up_is_least, push_down}
use Rattle.dsa_search_laws.proofs.Claims.{not_placed, rises-filter}
use Rattle.dsa_search_laws.proofs.First.{HasSettled, has_settled}

-- ---- capacities
pub places_higher : (I : Instance) (C D : ℕ) (l : Claim) (o : ℕ → ℕ) → C ≤ D → Places I C l o → Places I D l o
places_higher I C D l o le p = record {
  aligned = p.aligned;
  above = p.above;
  within = λ e i. (let k = p.within e i in omega arith);
  apart = p.apart;
}

pub layout_higher : (I : Instance) (C D : ℕ) (o : List ℕ) → C ≤ D → IsLayout I C o → IsLayout I D o
layout_higher I C D o le p = record {
  count = p.count;
  aligned = p.aligned;
  above = p.above;
  within = λ b i. (let k = p.within b i in omega arith);
  apart = p.apart;
}

pub feasible_higher : (I : Instance) (C D : ℕ) → C ≤ D → IsFeasible I C → IsFeasible I D
feasible_higher I C D le h = (h.0, layout_higher I C D h.0 le h.1)

-- ---- covering
pub covered_places : (I : Instance) (C : ℕ) (k l : Claim) (o : ℕ → ℕ) → IsInstance I → Covers I k l → Places I C l o →
    Places I C k o
covered_places I C k l o s h p = record {
  aligned = λ e i. let r = h e i in rw (← r.2) (p.aligned r.0 r.1);
  above = λ e i. let r = h e i in let a = above_up I C l o r.0 s p r.1 in let b = r.3 in
      let q : o e.0 ≡ o r.0.0 = ap o (sym r.2) in omega arith;
  within = λ e i. let r = h e i in rw (← r.2) (p.within r.0 r.1);
  apart = λ e f t i j ne a b. let r = h e i in let q = h f j in
      rw (← r.2, ← q.2) (p.apart r.0 q.0 t r.1 q.1 (λ n. ne (sym r.2 ∙ n ∙ q.2)) (rw (← r.2) at a) (rw (← q.2) at b));
}

pub covered_is_refuted : (I : Instance) (C : ℕ) (k l : Claim) → IsInstance I → Covers I k l → IsRefuted I C k →
    IsRefuted I C l
covered_is_refuted I C k l s h r seats p =
    not_placed I C k (number_of seats) r (covered_places I C k l (number_of seats) s h p.places)

pub covers_along : (I : Instance) (k m l : Claim) → IsInstance I → Covers I k m → Covers I m l → Covers I k l
covers_along I k m l s h j e i =
    let f = h e i in let g = j f.0 f.1 in
    let a : up I f.0 ≤ up I g.0 = up_is_least I f.0 (up I g.0) s g.3 (multiple g.0 f.0 g.2) in
    let b = f.3 in
    (g.0, g.1, g.2 ∙ f.2, omega arith)
  where
    multiple : (g f : Entry) → g.0 ≡ f.0 → IsMultiple (up I g) (buffer I f.0).alignment
    multiple g f q = rw (← q) (up_is_multiple I g s)

-- ---- an Over line
record IsStacked (I : Instance) (T H G : ℕ) (e : Entry) : Type 0 where
  live : IsLive (buffer I e.0) T
  high : H ≤ up I e
  multiple : (buffer I e.0).alignment % G ≡ 0

stacked_is : (I : Instance) (T H G : ℕ) (e : Entry) → is_stacked I T H G e ≡ true → IsStacked I T H G e
unfolding is_stacked
stacked_is I T H G e h =
    let r2 = and_true (is_live (buffer I e.0) T && nat_le H (up I e)) ((buffer I e.0).alignment % G == 0) h in
    let r1 = and_true (is_live (buffer I e.0) T) (nat_le H (up I e)) r2.0 in
    record { live = r1.0; high = at_most H (up I e) r1.1; multiple = equal ((buffer I e.0).alignment % G) 0 r2.1 }

pub in_greatest : {X : Type 0} (f : X → ℕ) (xs : List X) (x : X) → IsIn x xs → f x ≤ greatest (map f xs)
in_greatest f [] x i = absurd i
in_greatest f (y ∷ ys) x (inl q) = let k : f x ≡ f y = ap f q in omega arith
in_greatest f (y ∷ ys) x (inr q) = let k = in_greatest f ys x q in omega arith

some_item : {X : Type 0} (xs : List X) → xs ≢ [] → (x : X) × IsIn x xs
some_item [] h = absurd (h refl)
some_item (x ∷ xs) h = (x, inl refl)

over_disjoint : (I : Instance) (C T H G : ℕ) (l : Claim) (o : ℕ → ℕ) (s : List Entry) → 1 ≤ G → Rises (buffers_of s) →
    Places I C l o →
    ((e : Entry) → IsIn e s → IsIn e l × IsStacked I T H G e) → Disjoint (λ (e : Entry). o e.0) (rounded I G) s
unfolding rounded
over_disjoint I C T H G l o [] pos r p h = tt
over_disjoint I C T H G l o (x ∷ xs) pos r p h =
    ((λ y i. apart y i), over_disjoint I C T H G l o xs pos r.1 p (λ e i. h e (inr i)))
  where
    starts : (e : Entry) → IsIn e (x ∷ xs) → o e.0 % G ≡ 0
    starts e i = let q = h e i in multiple_along (o e.0) (buffer I e.0).alignment G (p.aligned e q.0) q.1.multiple

    apart : (y : Entry) → IsIn y xs → (o x.0 + rounded I G x ≤ o y.0) ⊎ (o y.0 + rounded I G y ≤ o x.0)
    apart y i =
        let a = h x (inl refl) in let b = h y (inr i) in
        let lies : IsApart (buffer I x.0) (o x.0) (buffer I y.0) (o y.0) =
        p.apart x y T a.0 b.0 (let k : x.0 < y.0 = r.0 y.0 (in_buffers xs y i) in omega arith) a.1.live b.1.live in
        elim lies [
          | inl q ↦ inl (room_for_rounded (o x.0) (buffer I x.0).size (o y.0) G pos (starts x (inl refl))
              (starts y (inr i)) q)
          | inr q ↦ inr (room_for_rounded (o y.0) (buffer I y.0).size (o x.0) G pos (starts y (inr i))
              (starts x (inl refl)) q)
        ]

top_of : (I : Instance) (C G : ℕ) (l : Claim) (o : ℕ → ℕ) (s : List Entry) (e : Entry) → Places I C l o → IsIn e s →
    IsIn e l → o e.0 + rounded I G e ≤ C + greatest (map (rounding I G) s)
unfolding rounding
top_of I C G l o s e p i j =
    let a = in_greatest (rounding I G) s e i in let b = p.within e j in
    grown (o e.0) (buffer I e.0).size (rounded I G e) C (greatest (map (rounding I G) s)) a b
  where
    grown : (x s r c g : ℕ) → r - s ≤ g → x + s ≤ c → x + r ≤ c + g
    grown x s r c g a b = omega arith

pub over_is_refuted : (I : Instance) (C T H G : ℕ) (l : Claim) → IsInstance I → IsClaim I l → IsOver I C T H G l →
    (o : ℕ → ℕ) → Places I C l o → ⊥
over_is_refuted I C T H G l s c h o p =
    let e = some_item (filter (is_stacked I T H G) l) h.some_stacked in
    let k = inside e.0 e.1 in
    let w = p.within e.0 k.0 in let u = above_up I C l o e.0 s p k.0 in let z = k.1.high in
    let room = pack (λ (e : Entry). o e.0) (rounded I G) (length (filter (is_stacked I T H G) l))
    (filter (is_stacked I T H G) l)
    H (C + greatest (map (rounding I G) (filter (is_stacked I T H G) l))) (omega arith) (omega arith)
    (over_disjoint I C T H G l o (filter (is_stacked I T H G) l) h.modulus
    (rises-filter (is_stacked I T H G) l c.rises) p inside)
    (λ f i. (
      let q = inside f i in let a = above_up I C l o f s p q.0 in let b = q.1.high in
          omega arith,
      top_of I C G l o (filter (is_stacked I T H G) l) f p i (inside f i).0,
    )) in
    let high = h.too_high in
    omega arith
  where
    inside : (e : Entry) → IsIn e (filter (is_stacked I T H G) l) → IsIn e l × IsStacked I T H G e
    inside e i = let r = from_filter (is_stacked I T H G) l e i in (r.0, stacked_is I T H G e r.1)

-- ---- a Cases line
cite_of : (I : Instance) (earlier : List Line) (l m : Claim) (cites : List Cite) (e : Entry) →
    AllZip (IsLegalCite I earlier l) m cites → IsIn e m → (c : Cite) × IsLegalCite I earlier l e c
cite_of I earlier l [] cites e h i = absurd i
cite_of I earlier l (x ∷ xs) [] e h i = absurd h
cite_of I earlier l (x ∷ xs) (c ∷ cs) e h (inl q) = (c, rw q h.0)
cite_of I earlier l (x ∷ xs) (c ∷ cs) e h (inr q) = cite_of I earlier l xs cs e h.1 q

cite_holds : (I : Instance) (C : ℕ) (earlier : List Line) (l : Claim) → IsInstance I → AreRefuted I C earlier →
    (h : HasSettled I C l) → (c : Cite) → IsLegalCite I earlier l h.entry c → ⊥
cite_holds I C earlier l s r h (ByLine k) q =
    not_placed I C (child I l h.entry) h.offset
    (covered_is_refuted I C (claim_of q.0) (child I l h.entry) s q.2 (r k q.0 q.1))
    (push_down I C l h.offset h.entry s h.places h.is_first)
cite_holds I C earlier l s r h (Below c) q =
    let k : ends_below I q.0 h.entry ≡ false = none_passes (λ f. ends_below I f h.entry) l q.0 h.settled.no_below q.1 in
    let m = q.3 in absurd cc
cite_holds I C earlier l s r h (Twin c) q =
    let k : is_twin I q.0 h.entry ≡ false = none_passes (λ f. is_twin I f h.entry) l q.0 h.settled.no_twin q.1 in
    let m = q.3 in absurd cc

-- ---- a legal line after lines whose claims are refuted
line_is_refuted : (I : Instance) (C : ℕ) (earlier : List Line) (line : Line) → IsInstance I → AreRefuted I C earlier →
    IsClaim I (claim_of line) → claim_of line ≢ [] → IsLegalReason I C earlier line →
    (o : ℕ → ℕ) → Places I C (claim_of line) o → ⊥
line_is_refuted I C earlier (Over l T H G) s r c ne h o p = over_is_refuted I C T H G l s c h o p
line_is_refuted I C earlier (Cases l cites) s r c ne h o p =
    let e = some_item l ne in
    let settled = has_settled I C l e.0 o s c e.1 p in
    let cite = cite_of I earlier l l cites settled.entry h settled.is_first.is_in in
    cite_holds I C earlier l s r settled cite.0 cite.1

pub legal_is_refuted : (I : Instance) (C : ℕ) (earlier : List Line) (line : Line) → IsInstance I →
    AreRefuted I C earlier → IsLegal I C earlier line → IsRefuted I C (claim_of line)
legal_is_refuted I C earlier line s r h seats p =
    line_is_refuted I C earlier line s r h.claim h.not_empty h.reason (number_of seats) p.places

-- ---- an accepted log
pub from_take : {X : Type 0} (xs : List X) (k j : ℕ) (x : X) → slice_get (take k xs) j ≡ Some x →
    (slice_get xs j ≡ Some x) × (j < k)
from_take [] zero j x h = absurd cc
from_take [] (suc k) j x h = absurd cc
from_take (y ∷ ys) zero j x h = absurd cc
from_take (y ∷ ys) (suc k) zero x h = (h, omega arith)
from_take (y ∷ ys) (suc k) (suc j) x h = let r = from_take ys k j x h in (r.0, (let q = r.1 in omega arith))

lines_refuted : (I : Instance) (log : Log) → IsInstance I → IsAccepted I log → (n k : ℕ) (line : Line) → k < n →
    slice_get log.lines k ≡ Some line → IsRefuted I log.capacity (claim_of line)
lines_refuted I log s a zero k line lt h = absurd (omega arith)
lines_refuted I log s a (suc n) k line lt h = go (lines_refuted I log s a n)
  where
    go : ((j : ℕ) (line : Line) → j < n → slice_get log.lines j ≡ Some line →
        IsRefuted I log.capacity (claim_of line)) → IsRefuted I log.capacity (claim_of line)
    go ih = legal_is_refuted I log.capacity (take k log.lines) line s
        (λ j m q. (let r = from_take log.lines k j m q in ih j m (let z = r.1 in omega arith) r.0)) (a.legal k line h)

-- a layout places each claim whose bounds its offsets are not below
pub layout_places : (I : Instance) (C : ℕ) (l : Claim) (offsets : List ℕ) → IsClaim I l →
    ((e : Entry) → IsIn e l → e.1 ≤ slice_index offsets e.0) → IsLayout I C offsets →
    Places I C l (slice_index offsets)
layout_places I C l offsets c above h = record {
  aligned = λ e i. h.aligned e.0 (c.in_range e i);
  above = above;
  within = λ e i. h.within e.0 (c.in_range e i);
  apart = λ e f t i j ne a b. h.apart e.0 f.0 t (c.in_range e i) (c.in_range f j) ne a b;
}

-- no offset of a layout is below the floor, so those of a whole claim are at its bounds or above
pub above_floor : (I : Instance) (C : ℕ) (offsets : List ℕ) (b : ℕ) → IsInstance I → IsLayout I C offsets →
    b < length I → floor (buffer I b) ≤ slice_index offsets b
unfolding floor
above_floor I C offsets b s h lt = next_is_least (buffer I b).lowest (buffer I b).alignment (slice_index offsets b)
    (sound I b s).1 (h.above b lt) (h.aligned b lt)

pub accepted_is_infeasible : (I : Instance) (log : Log) → IsInstance I → IsAccepted I log → IsInfeasible I log.capacity
accepted_is_infeasible I log s a offsets h =
    let w = a.whole in
    let c = (a.legal log.final w.0 w.1).claim in
    not_placed I log.capacity (claim_of w.0) (slice_index offsets)
    (lines_refuted I log s a (suc log.final) log.final w.0 (omega arith) w.1)
    (layout_places I log.capacity (claim_of w.0) offsets c (λ e i. let k = w.2 e i in
    let f = above_floor I log.capacity offsets e.0 s h (c.in_range e i) in omega arith) h)
