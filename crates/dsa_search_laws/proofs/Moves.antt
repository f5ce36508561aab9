-- Moves of a placement: a buffer below all others, and twins that change places.
use Rattle.std.proofs.Common.{◌≡◌, ℕ, ◌+◌, ◌-◌, ◌*◌, ◌<◌, ◌≤◌, ◌≢◌, ◌⊎◌, inl, inr, true, cond, not, ◌==◌, ◌&&◌, [], ◌∷◌, length, nat_lt, nat_le, sym, refl, ap, ◌∙◌, subst₂, arith}
use Rattle.std.proofs.lemmas.Bool.Decides.{nat_tests}
use Rattle.dsa_terms.specs.Buffers.{Instance, buffer, is_live, IsInstance, HaveSameMoments, have_same_moments}
use Rattle.dsa_terms.specs.Layouts.{IsApart, IsMultiple}
use Rattle.dsa_terms.specs.Claims.{Entry, Claim, IsIn, Rises, buffers_of, up, Places}
use Rattle.dsa_terms.specs.Logs.{ends_below, is_twin}
use Rattle.dsa_terms.proofs.Moments.{and_true, same_moments}
use Rattle.dsa_terms.proofs.NumberTests.{at_most, equal, less}
use Rattle.dsa_search_laws.specs.Placements.{IsFirst, weight}
use Rattle.dsa_search_laws.proofs.Placing.{in_buffers, same_entry, up_at_or_above, up_is_multiple, above_up}
use Rattle.dsa_search_laws.proofs.Complete.{put_at, put_at_same, put_at_other, same_or_not}

-- ---- weights
pub weight_like : (I : Instance) (o p : ℕ → ℕ) (l : Claim) → ((e : Entry) → IsIn e l → p e.0 ≡ o e.0) →
    weight I p l ≡ weight I o l
weight_like I o p [] h = refl
weight_like I o p (x ∷ xs) h = rw (h x (inl refl), weight_like I o p xs (λ e i. h e (inr i)))

pub weight-put_at : (I : Instance) (o : ℕ → ℕ) (l : Claim) (e : Entry) (x : ℕ) → Rises (buffers_of l) → IsIn e l →
    weight I (put_at e.0 x o) l + (length I - e.0) * o e.0 ≡ weight I o l + (length I - e.0) * x
weight-put_at I o [] e x r i = absurd i
weight-put_at I o (y ∷ ys) e x r (inl q) =
    let rest : weight I (put_at e.0 x o) ys ≡ weight I o ys = weight_like I o (put_at e.0 x o) ys
    (λ f j. put_at_other e.0 x o f.0 (apart f j)) in
    let k : e.0 ≡ y.0 = ap (λ e. e.0) q in
    let h : put_at e.0 x o y.0 ≡ x = put_at_same e.0 x o y.0 (sym k) in
    rw (rest, h, k) (omega arith)
  where
    apart : (f : Entry) → IsIn f ys → f.0 ≢ e.0
    apart f j n = let k : e.0 ≡ y.0 = ap (λ e. e.0) q in let m = r.0 f.0 (in_buffers ys f j) in omega arith
weight-put_at I o (y ∷ ys) e x r (inr q) =
    let ih = weight-put_at I o ys e x r.1 q in
    let m : y.0 < e.0 = r.0 e.0 (in_buffers ys e q) in
    let h : put_at e.0 x o y.0 ≡ o y.0 = put_at_other e.0 x o y.0 (omega arith) in
    rw h (omega arith)

-- ---- what excludes a buffer
pub below_is : (I : Instance) (f e : Entry) → ends_below I f e ≡ true →
    (f.0 ≢ e.0) × (up I f + (buffer I f.0).size ≤ up I e)
unfolding ends_below
below_is I f e h =
    let r = and_true (not (f.0 == e.0)) (nat_le (up I f + (buffer I f.0).size) (up I e)) h in (other r.0, le r.1)
  where
    other : not (f.0 == e.0) ≡ true → f.0 ≢ e.0
    other q n = grind (arith, nat_tests)

    le : nat_le (up I f + (buffer I f.0).size) (up I e) ≡ true → up I f + (buffer I f.0).size ≤ up I e
    le q = grind (arith, nat_tests)

pub record IsTwin (I : Instance) (f e : Entry) : Type 0 where
  pub less : f.0 < e.0
  pub moments : HaveSameMoments (buffer I f.0) (buffer I e.0)
  pub size : (buffer I f.0).size ≡ (buffer I e.0).size
  pub alignment : (buffer I f.0).alignment ≡ (buffer I e.0).alignment
  pub no_higher : up I f ≤ up I e

pub twin_is : (I : Instance) (f e : Entry) → is_twin I f e ≡ true → IsTwin I f e
unfolding is_twin
twin_is I f e h =
    let b = buffer I f.0 in let c = buffer I e.0 in
    let r4 = and_true (nat_lt f.0 e.0 && have_same_moments b c && (b.size == c.size) && (b.alignment == c.alignment))
    (nat_le (up I f) (up I e)) h in
    let r3 = and_true (nat_lt f.0 e.0 && have_same_moments b c && (b.size == c.size))
    (b.alignment == c.alignment) r4.0 in
    let r2 = and_true (nat_lt f.0 e.0 && have_same_moments b c) (b.size == c.size) r3.0 in
    let r1 = and_true (nat_lt f.0 e.0) (have_same_moments b c) r2.0 in
    record {
      less = less f.0 e.0 r1.0;
      moments = same_moments b c r1.1;
      size = equal b.size c.size r2.1;
      alignment = equal b.alignment c.alignment r3.1;
      no_higher = at_most (up I f) (up I e) r4.1;
    }

-- ---- a buffer that fits below all others, moved there
pub move_below : (I : Instance) (C : ℕ) (l : Claim) (o : ℕ → ℕ) (e : Entry) → IsInstance I → Rises (buffers_of l) →
    IsIn e l → up I e + (buffer I e.0).size ≤ C →
    ((f : Entry) → IsIn f l → up I e + (buffer I e.0).size ≤ o f.0) → Places I C l o →
    Places I C l (put_at e.0 (up I e) o)
move_below I C l o e s r i fits h p = record {
  aligned = λ f j. elim (same_or_not e.0 f.0) [
    | inl q ↦ rw (put_at_same e.0 (up I e) o f.0 q, q) (up_is_multiple I e s)
    | inr q ↦ rw (put_at_other e.0 (up I e) o f.0 q) (p.aligned f j)
  ];
  above = λ f j. elim (same_or_not e.0 f.0) [
    | inl q ↦ rw (put_at_same e.0 (up I e) o f.0 q, same_entry l f e r j i q) (up_at_or_above I e s)
    | inr q ↦ rw (put_at_other e.0 (up I e) o f.0 q) (p.above f j)
  ];
  within = λ f j. elim (same_or_not e.0 f.0) [
    | inl q ↦ rw (put_at_same e.0 (up I e) o f.0 q, q) fits
    | inr q ↦ rw (put_at_other e.0 (up I e) o f.0 q) (p.within f j)
  ];
  apart = λ f g t j k ne a b. elim (same_or_not e.0 f.0) [
    | inl q ↦ elim (same_or_not e.0 g.0) [
      | inl z ↦ absurd (ne (q ∙ sym z))
      | inr z ↦ rw (put_at_same e.0 (up I e) o f.0 q, put_at_other e.0 (up I e) o g.0 z, q) (inl (h g k))
    ]
    | inr q ↦ elim (same_or_not e.0 g.0) [
      | inl z ↦ rw (put_at_other e.0 (up I e) o f.0 q, put_at_same e.0 (up I e) o g.0 z, z) (inr (h f j))
      | inr z ↦ rw (put_at_other e.0 (up I e) o f.0 q, put_at_other e.0 (up I e) o g.0 z) (p.apart f g t j k ne a b)
    ]
  ];
}

-- ---- twins change places
unfoldable pub changed : ℕ → ℕ → ℕ → ℕ
changed b c x = cond (x == b) c (cond (x == c) b x)

pub changed_cases : (b c x : ℕ) → b ≢ c → ((x ≡ b) × (changed b c x ≡ c))
    ⊎ (((x ≡ c) × (changed b c x ≡ b)) ⊎ ((x ≢ b) × (x ≢ c) × (changed b c x ≡ x)))
unfolding changed
changed_cases b c x ne = grind (arith, nat_tests)

changed_apart : (b c x y : ℕ) → x ≢ y → changed b c x ≢ changed b c y
unfolding changed
changed_apart b c x y ne h = grind (arith, nat_tests)

-- what stands where: the entry that has the offset now, alike in all that matters
record HasPlace (I : Instance) (C : ℕ) (l : Claim) (o : ℕ → ℕ) (b c : ℕ) (g : Entry) : Type 0 where
  other : Entry
  is_in : IsIn other l
  number : other.0 ≡ changed b c g.0
  size : (buffer I other.0).size ≡ (buffer I g.0).size
  alignment : (buffer I other.0).alignment ≡ (buffer I g.0).alignment
  moments : HaveSameMoments (buffer I other.0) (buffer I g.0)
  above : g.1 ≤ o other.0

place_of : (I : Instance) (C : ℕ) (l : Claim) (o : ℕ → ℕ) (e f g : Entry) → IsInstance I → Rises (buffers_of l) →
    Places I C l o → IsFirst l o e → IsIn f l → IsTwin I f e → IsIn g l → HasPlace I C l o e.0 f.0 g
place_of I C l o e f g s r p first i twin j = elim (changed_cases e.0 f.0 g.0 (let k = twin.less in omega arith)) [
  | inl q ↦ let same : g ≡ e = same_entry l g e r j first.is_in q.0 in
      record {
        other = f;
        is_in = i;
        number = sym q.1;
        size = twin.size ∙ sym (ap (λ (g : Entry). (buffer I g.0).size) same);
        alignment = twin.alignment ∙ sym (ap (λ (g : Entry). (buffer I g.0).alignment) same);
        moments = λ t. twin.moments t ∙ sym (ap (λ (g : Entry). is_live (buffer I g.0) t) same);
        above = rw same (let a = p.above e first.is_in in let b = first.lowest f i in omega arith);
      }
  | inr (inl q) ↦ let same : g ≡ f = same_entry l g f r j i q.0 in
      record {
        other = e;
        is_in = first.is_in;
        number = sym q.1;
        size = sym (ap (λ (g : Entry). (buffer I g.0).size) same ∙ twin.size);
        alignment = sym (ap (λ (g : Entry). (buffer I g.0).alignment) same ∙ twin.alignment);
        moments = λ t. sym (ap (λ (g : Entry). is_live (buffer I g.0) t) same ∙ twin.moments t);
        above = rw same (let a = up_at_or_above I f s in let b = twin.no_higher in
            let d = above_up I C l o e s p first.is_in in omega arith);
      }
  | inr (inr q) ↦ record {
    other = g;
    is_in = j;
    number = sym q.2;
    size = refl;
    alignment = refl;
    moments = λ t. refl;
    above = p.above g j;
  }
]

pub change_places : (I : Instance) (C : ℕ) (l : Claim) (o : ℕ → ℕ) (e f : Entry) → IsInstance I → Rises (buffers_of l) →
    Places I C l o → IsFirst l o e → IsIn f l → IsTwin I f e →
    Places I C l (λ c. o (changed e.0 f.0 c))
change_places I C l o e f s r p first i twin = record {
  aligned = λ g j. let h = at g j in subst₂ (λ (m a : ℕ). IsMultiple (o m) a) h.number h.alignment
      (p.aligned h.other h.is_in);
  above = λ g j. let h = at g j in rw (← h.number) h.above;
  within = λ g j. let h = at g j in rw (← h.number, ← h.size) (p.within h.other h.is_in);
  apart = λ g d t j k ne a b. let h = at g j in let m = at d k in
      let lies : IsApart (buffer I h.other.0) (o h.other.0) (buffer I m.other.0) (o m.other.0) =
      p.apart h.other m.other t h.is_in m.is_in (λ q. changed_apart e.0 f.0 g.0 d.0 ne (sym h.number ∙ q ∙ m.number))
      (h.moments t ∙ a) (m.moments t ∙ b) in
      rw (← h.number, ← m.number) (elim lies [ inl q ↦ inl (rw (← h.size) q) | inr q ↦ inr (rw (← m.size) q) ]);
}
  where
    at : (g : Entry) → IsIn g l → HasPlace I C l o e.0 f.0 g
    at g j = place_of I C l o e f g s r p first i twin j
