-- The search answers none exactly where the claim is refuted.
use Rattle.std.proofs.Common.{◌≡◌, ℕ, zero, suc, ◌+◌, ◌<◌, ◌≤◌, ◌≢◌, ◌⊎◌, ◌↔◌, inl, inr, Bool, true, false, cond, ◌==◌, List, [], ◌∷◌, map, length, filter, max, Option, Some, None, sym, refl, ◌∙◌, arith}
use Rattle.std.specs.List.{list_any}
use Rattle.std.proofs.lemmas.Bool.Decides.{nat_tests}
use Rattle.dsa_terms.specs.Buffers.{Instance, buffer, IsLive, do_share, IsInstance}
use Rattle.dsa_terms.specs.Layouts.{IsMultiple}
use Rattle.dsa_terms.specs.Claims.{Entry, Claim, IsIn, Rises, buffers_of, IsClaim, up, number_of, Places, IsPlacement, IsRefuted, step, child}
use Rattle.dsa_terms.specs.Search.{comes_before, is_tall, first_some, choices, seated, Rule, first_of}
use Rattle.dsa_terms.proofs.Lists.{into_filter, from_filter, true_or_false, none_or_some, any_gives, none_passes, into_ordered_by, from_ordered_by, all_none, some_answer}
use Rattle.dsa_terms.proofs.Moments.{do_share-false}
use Rattle.dsa_search_laws.specs.Searches.{all_taken, plain_first}
use Rattle.dsa_search_laws.proofs.Placing.{same_entry, in_child, up_at_or_above, up_is_multiple, above_up, push_down}
use Rattle.dsa_search_laws.proofs.Claims.{number_of-map, buffers_of-map, places_like, claim-child, length-child, has_first}

pub tall_is : (I : Instance) (C : ℕ) (e : Entry) → is_tall I C e ≡ true → C < up I e + (buffer I e.0).size
unfolding is_tall
tall_is I C e h = grind (arith, nat_tests)

pub not_tall_is : (I : Instance) (C : ℕ) (e : Entry) → is_tall I C e ≡ false → up I e + (buffer I e.0).size ≤ C
unfolding is_tall
not_tall_is I C e h = grind (arith, nat_tests)

-- ---- putting the buffer of e at its up, under a placement of the child
-- the offsets o, with b at x
unfoldable pub put_at : ℕ → ℕ → (ℕ → ℕ) → ℕ → ℕ
put_at b x o c = cond (c == b) x (o c)

pub put_at_same : (b x : ℕ) (o : ℕ → ℕ) (c : ℕ) → c ≡ b → put_at b x o c ≡ x
unfolding put_at
put_at_same b x o c h = grind (arith, nat_tests)

pub put_at_other : (b x : ℕ) (o : ℕ → ℕ) (c : ℕ) → c ≢ b → put_at b x o c ≡ o c
unfolding put_at
put_at_other b x o c h = grind (arith, nat_tests)

pub same_or_not : (b c : ℕ) → (c ≡ b) ⊎ (c ≢ b)
same_or_not b c = grind arith

-- what placing a child says of each other buffer of the claim
record IsAbove (I : Instance) (C : ℕ) (l : Claim) (e : Entry) (o : ℕ → ℕ) (f : Entry) : Type 0 where
  aligned : IsMultiple (o f.0) (buffer I f.0).alignment
  above : up I f ≤ o f.0
  past : up I e + step I e.0 f.0 ≤ o f.0
  within : o f.0 + (buffer I f.0).size ≤ C

above_of : (I : Instance) (C : ℕ) (l : Claim) (e : Entry) (o : ℕ → ℕ) (f : Entry) → Places I C (child I l e) o →
    IsIn f l → f.0 ≢ e.0 → IsAbove I C l e o f
above_of I C l e o f p i ne =
    let j = in_child I l e f i ne in
    let m : max (up I f) (up I e + step I e.0 f.0) ≤ o f.0 = p.above (f.0, max (up I f) (up I e + step I e.0 f.0)) j in
    record {
      aligned = p.aligned (f.0, max (up I f) (up I e + step I e.0 f.0)) j;
      above = omega arith;
      past = omega arith;
      within = p.within (f.0, max (up I f) (up I e + step I e.0 f.0)) j;
    }

step_of_sharing : (I : Instance) (b c t : ℕ) → IsLive (buffer I b) t → IsLive (buffer I c) t →
    step I b c ≡ (buffer I b).size
unfolding step
step_of_sharing I b c t p q = elim (true_or_false (do_share (buffer I b) (buffer I c))) [
  | inl h ↦ rw h
  | inr h ↦ absurd (do_share-false (buffer I b) (buffer I c) t h p q)
]

pub rise : (I : Instance) (C : ℕ) (l : Claim) (o : ℕ → ℕ) (e : Entry) → IsInstance I → Rises (buffers_of l) → IsIn e l →
    up I e + (buffer I e.0).size ≤ C →
    Places I C (child I l e) o → Places I C l (put_at e.0 (up I e) o)
rise I C l o e s r i fits p = record {
  aligned = λ f j. elim (same_or_not e.0 f.0) [
    | inl q ↦ rw (put_at_same e.0 (up I e) o f.0 q, q) (up_is_multiple I e s)
    | inr q ↦ rw (put_at_other e.0 (up I e) o f.0 q) (above_of I C l e o f p j q).aligned
  ];
  above = λ f j. elim (same_or_not e.0 f.0) [
    | inl q ↦ rw (put_at_same e.0 (up I e) o f.0 q, same_entry l f e r j i q) (up_at_or_above I e s)
    | inr q ↦ rw (put_at_other e.0 (up I e) o f.0 q) (let a = (above_of I C l e o f p j q).above in
        let b = up_at_or_above I f s in omega arith)
  ];
  within = λ f j. elim (same_or_not e.0 f.0) [
    | inl q ↦ rw (put_at_same e.0 (up I e) o f.0 q, q) fits
    | inr q ↦ rw (put_at_other e.0 (up I e) o f.0 q) (above_of I C l e o f p j q).within
  ];
  apart = λ f g t j k ne a b. elim (same_or_not e.0 f.0) [
    | inl q ↦ elim (same_or_not e.0 g.0) [
      | inl z ↦ absurd (ne (q ∙ sym z))
      | inr z ↦ rw (put_at_same e.0 (up I e) o f.0 q, put_at_other e.0 (up I e) o g.0 z, q)
          (inl (over g t k z (rw q at a) b))
    ]
    | inr q ↦ elim (same_or_not e.0 g.0) [
      | inl z ↦ rw (put_at_other e.0 (up I e) o f.0 q, put_at_same e.0 (up I e) o g.0 z, z)
          (inr (over f t j q (rw z at b) a))
      | inr z ↦ rw (put_at_other e.0 (up I e) o f.0 q, put_at_other e.0 (up I e) o g.0 z)
          (p.apart (f.0, max (up I f) (up I e + step I e.0 f.0)) (g.0, max (up I g) (up I e + step I e.0 g.0)) t
          (in_child I l e f j q) (in_child I l e g k z) ne a b)
    ]
  ];
}
  where
    over : (f : Entry) (t : ℕ) → IsIn f l → f.0 ≢ e.0 → IsLive (buffer I e.0) t → IsLive (buffer I f.0) t →
        up I e + (buffer I e.0).size ≤ o f.0
    over f t j q a b = let h = (above_of I C l e o f p j q).past in let k = step_of_sharing I e.0 f.0 t a b in
        omega arith

-- ---- the search is complete where its rule takes some buffer whose child is placed
abbrev pub IsComplete : Instance → ℕ → Rule → Type 0
IsComplete I C rule = (l : Claim) (o : ℕ → ℕ) (e : Entry) → IsClaim I l → Places I C l o → IsIn e l →
    (f : Entry) × IsIn f l × (rule l f ≡ true) × (p : ℕ → ℕ) × Places I C (child I l f) p

pub seated_none : (I : Instance) (l : Claim) (e : Entry) (a : Option (List Entry)) → seated I l e a ≡ None → a ≡ None
seated_none I l e None h = refl
seated_none I l e (Some s) h = absurd cc

pub seated_some : (I : Instance) (l : Claim) (e : Entry) (a : Option (List Entry)) (s : List Entry) →
    seated I l e a ≡ Some s →
    (r : List Entry) × (a ≡ Some r) × (map (λ f. (f.0, put_at e.0 (up I e) (number_of r) f.0)) l ≡ s)
unfolding put_at
seated_some I l e None s h = absurd cc
seated_some I l e (Some r) s h = (r, refl, cc)

pub into_choices : (I : Instance) (rule : Rule) (l : Claim) (e : Entry) → IsIn e l → rule l e ≡ true →
    IsIn e (choices I rule l)
into_choices I rule l e i h = into_ordered_by (comes_before I) (filter (rule l) l) e (into_filter (rule l) l e i h)

pub from_choices : (I : Instance) (rule : Rule) (l : Claim) (e : Entry) → IsIn e (choices I rule l) → IsIn e l
from_choices I rule l e i = (from_filter (rule l) l e (from_ordered_by (comes_before I) (filter (rule l) l) e i)).0

has_entry : (l : Claim) (k : ℕ) → length l ≡ suc k → (e : Entry) × IsIn e l
has_entry [] k h = absurd (omega arith)
has_entry (x ∷ xs) k h = (x, inl refl)

has_none : (l : Claim) → length l ≡ 0 → l ≡ []
has_none [] h = refl
has_none (x ∷ xs) h = absurd (omega arith)

-- an answer of none: no offsets place the claim
pub none_is_refuted : (I : Instance) (C : ℕ) (rule : Rule) → IsInstance I → IsComplete I C rule →
    (k : ℕ) (l : Claim) → length l ≡ k → IsClaim I l → first_of rule k I C l ≡ None → (o : ℕ → ℕ) → Places I C l o → ⊥
none_is_refuted I C rule s complete zero l n c h o p = absurd cc
none_is_refuted I C rule s complete (suc k) l n c h o p =
    go (none_is_refuted I C rule s complete k) (list_any (is_tall I C) l) refl h
  where
    IH : Type 0
    IH = (m : Claim) → length m ≡ k → IsClaim I m → first_of rule k I C m ≡ None → (o : ℕ → ℕ) → Places I C m o → ⊥

    go : IH → (b : Bool) → list_any (is_tall I C) l ≡ b →
        cond b None (first_some (λ e. seated I l e (first_of rule k I C (child I l e))) (choices I rule l)) ≡ None → ⊥
    go ih true t q =
        let r = any_gives (is_tall I C) l t in
        let a = tall_is I C r.0 r.2 in let b = above_up I C l o r.0 s p r.1 in let d = p.within r.0 r.1 in
        omega arith
    go ih false t q =
        let e = has_entry l k n in
        let f = complete l o e.0 c p e.1 in
        let none = all_none (λ e. seated I l e (first_of rule k I C (child I l e))) (choices I rule l) f.0 q
        (into_choices I rule l f.0 f.1 f.2) in
        let len = length-child I l f.0 c.rises f.1 in
        ih (child I l f.0) (omega arith) (claim-child I l f.0 c)
        (seated_none I l f.0 (first_of rule k I C (child I l f.0)) none) f.3 f.4

-- an answer is a placement
pub some_is_placement : (I : Instance) (C : ℕ) (rule : Rule) → IsInstance I →
    (k : ℕ) (l : Claim) (seats : List Entry) → length l ≡ k → IsClaim I l → first_of rule k I C l ≡ Some seats →
    IsPlacement I C l seats
some_is_placement I C rule s zero l seats n c h =
    let z : l ≡ [] = has_none l n in let y : seats ≡ [] = cc in
    rw (z, y) (record {
      same_buffers = refl;
      places = record {
        aligned = λ e i. absurd i;
        above = λ e i. absurd i;
        within = λ e i. absurd i;
        apart = λ e f t i j. absurd i;
      };
    })
some_is_placement I C rule s (suc k) l seats n c h =
    go (some_is_placement I C rule s k) (list_any (is_tall I C) l) refl h
  where
    go : ((m : Claim) (seats : List Entry) → length m ≡ k → IsClaim I m → first_of rule k I C m ≡ Some seats →
        IsPlacement I C m seats) →
        (b : Bool) → list_any (is_tall I C) l ≡ b →
        cond b None (first_some (λ e. seated I l e (first_of rule k I C (child I l e))) (choices I rule l))
        ≡ Some seats → IsPlacement I C l seats
    go ih true t q = absurd cc
    go ih false t q =
        let e = some_answer (λ e. seated I l e (first_of rule k I C (child I l e))) (choices I rule l) seats q in
        let i = from_choices I rule l e.0 e.1 in
        let r = seated_some I l e.0 (first_of rule k I C (child I l e.0)) seats e.2 in
        let len = length-child I l e.0 c.rises i in
        let p = ih (child I l e.0) r.0 (omega arith) (claim-child I l e.0 c) r.1 in
        let g = put_at e.0.0 (up I e.0) (number_of r.0) in
        let all = rise I C l (number_of r.0) e.0 s c.rises i
        (not_tall_is I C e.0 (none_passes (is_tall I C) l e.0 t i)) p.places in
        rw (← r.2) (record {
          same_buffers = buffers_of-map (λ f. g f.0) l;
          places = places_like I C l g (number_of (map (λ f. (f.0, g f.0)) l)) (number_of-map g l) all;
        })

pub exactly : (I : Instance) (C : ℕ) (rule : Rule) → IsInstance I → IsComplete I C rule → (l : Claim) → IsClaim I l →
    (first_of rule (length l) I C l ≡ None) ↔ IsRefuted I C l
exactly I C rule s complete l c = (
  λ h seats p. none_is_refuted I C rule s complete (length l) l refl c h (number_of seats) p.places,
  λ r. elim (none_or_some (first_of rule (length l) I C l)) [
    | inl h ↦ h
    | inr q ↦ absurd (r q.0 (some_is_placement I C rule s (length l) l q.0 refl c q.1))
  ],
)

-- ---- the plain search takes every buffer, the first one of a placement too
pub plain_is_complete : (I : Instance) (C : ℕ) → IsInstance I → IsComplete I C all_taken
plain_is_complete I C s l o e c p i =
    let f = has_first l o e i in (f.0, f.1.is_in, refl, o, push_down I C l o f.0 s p f.1)

pub plain_first_exactly : (I : Instance) (C : ℕ) (l : Claim) → IsInstance I → IsClaim I l →
    (plain_first I C l ≡ None) ↔ IsRefuted I C l
unfolding plain_first
plain_first_exactly I C l s c = exactly I C all_taken s (plain_is_complete I C s) l c

pub plain_first_places : (I : Instance) (C : ℕ) (l : Claim) (seats : List Entry) → IsInstance I → IsClaim I l →
    plain_first I C l ≡ Some seats → IsPlacement I C l seats
unfolding plain_first
plain_first_places I C l seats s c h = some_is_placement I C all_taken s (length l) l seats refl c h
