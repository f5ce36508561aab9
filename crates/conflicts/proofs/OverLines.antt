-- The Over line of what an Over line stacks, from its least height on.
use Rattle.std.proofs.Common.{◌≡◌, ℕ, ◌+◌, ◌-◌, ◌%◌, ◌<◌, ◌≤◌, ◌≢◌, ◌⊎◌, ◌&&◌, ◌==◌, inl, inr, true, nat_le, List, [], ◌∷◌, ◌^◌, length, map, max, sym, refl, ap, ◌∙◌, arith}
use Rattle.std.proofs.lemmas.List.Sums.{sum_by-cons}
use Rattle.std.specs.List.{sum_by}
use Rattle.std.specs.Int.{next_multiple_of}
use Rattle.dsa_model.proofs.Instances.{sound_buffer}
use Rattle.dsa_terms.specs.Buffers.{Instance, buffer, is_live}
use Rattle.dsa_terms.specs.Claims.{Claim, Covers, Entry, IsClaim, IsIn, buffers_of, up}
use Rattle.dsa_terms.specs.Lean.{IsLeanOver}
use Rattle.dsa_terms.specs.Logs.{Line, Over, IsLegal, IsOver, greatest, is_stacked, rounded, rounding, stack_height, stacked}
use Rattle.dsa_terms.proofs.Lists.{from_filter, from_map}
use Rattle.dsa_terms.proofs.Moments.{and_true}
use Rattle.dsa_terms.proofs.Numbers.{next_at_or_above, next_is_below, next_is_least, next_is_multiple}
use Rattle.dsa_search_laws.proofs.Claims.{buffers_of-map, rises-filter}
use Rattle.dsa_terms.proofs.NumberTests.{at_most, is_at_most}
use Rattle.dsa_model.specs.Buffer.{buffer_limit}
use Rattle.canonical_order.proofs.CoverLemmas.{length_within}
use Rattle.canonical_order.specs.Claims.{IsBoundedBy}
use Rattle.canonical_order.specs.Stands.{Stands}
use Rattle.refute_log.specs.Lines.{IsWithin}
use Rattle.conflicts.proofs.Easings.{IsEased}
use Rattle.conflicts.specs.Eased.{eased_over, from_height, least_height}

-- ---- numbers
least_within : (C H sum most G : ℕ) → 1 ≤ G → H % G ≡ 0 → C < H + sum - most →
    next_multiple_of (C + 1 - (sum - most)) G ≤ H
least_within C H sum most G pos m lt = next_is_least (C + 1 - (sum - most)) G H pos (omega arith) m

reaches_above : (C h sum most : ℕ) → most ≤ sum → C + 1 - (sum - most) ≤ h → C < h + sum - most
reaches_above C h sum most le k = omega arith

zero_or_fits : (C w G : ℕ) → 1 ≤ G → (next_multiple_of (C + 1 - w) G ≡ 0) ⊎ (next_multiple_of (C + 1 - w) G - G + w ≤ C)
zero_or_fits C w G pos = elim (zero_or_more (C + 1 - w)) [
  | inl q ↦ inl (let k : next_multiple_of (C + 1 - w) G ≤ 0 =
      next_is_least (C + 1 - w) G 0 pos (omega arith) zero_multiple in
      omega arith)
  | inr lt ↦ inr (let k = next_is_below (C + 1 - w) G pos in omega arith)
]
  where
    zero_or_more : (n : ℕ) → (n ≡ 0) ⊎ (0 < n)
    zero_or_more n = grind arith

    zero_multiple : 0 % G ≡ 0
    zero_multiple = grind arith

not_above : (C h sum most : ℕ) → h + (sum - most) ≤ C → C < h + sum - most → most ≤ sum → {X : Type 0} → X
not_above C h sum most fits lt le = absurd (omega arith)

-- what a stack on the ground comes to
on_ground : (I : Instance) (G : ℕ) (s : Claim) →
    stack_height I 0 G s ≡ sum_by (rounded I G) s - greatest (map (rounding I G) s)
on_ground I G s = omega arith

-- ---- entries that count at each height
-- the buffer of the entry is live at T and starts at multiples of G alone
pub record Counts (I : Instance) (T G : ℕ) (e : Entry) : Type 0 where
  pub live : is_live (buffer I e.0) T ≡ true
  pub multiple : ((buffer I e.0).alignment % G == 0) ≡ true
  pub aligned : 1 ≤ (buffer I e.0).alignment

not_none : (h : ℕ) (s : Claim) → s ≢ [] → from_height h s ≡ [] → ⊥
not_none h [] ne q = ne refl
not_none h (x ∷ xs) ne q = cc

module _ (I : Instance) (T G : ℕ) where
  stacked_from : (h : ℕ) (s : Claim) → ((e : Entry) → IsIn e s → Counts I T G e) →
      stacked I (from_height h s) T h G ≡ from_height h s
  unfolding is_stacked up
  stacked_from h [] c = refl
  stacked_from h (x ∷ xs) c =
      let k = c x (inl refl) in
      let high : nat_le h (next_multiple_of h (buffer I x.0).alignment) ≡ true =
      is_at_most h (next_multiple_of h (buffer I x.0).alignment)
      (next_at_or_above h (buffer I x.0).alignment k.aligned) in
      rw (k.live, high, k.multiple) (ap (λ (l : Claim). (x.0, h) ∷ l) (stacked_from h xs (λ e i. c e (inr i))))

  sum_from : (h : ℕ) (s : Claim) → sum_by (rounded I G) (from_height h s) ≡ sum_by (rounded I G) s
  unfolding rounded
  sum_from h [] = refl
  sum_from h (x ∷ xs) = rw (
    sum_by-cons (rounded I G) (x.0, h) (from_height h xs),
    sum_by-cons (rounded I G) x xs,
    sum_from h xs,
  ) refl

  most_from : (h : ℕ) (s : Claim) → greatest (map (rounding I G) (from_height h s)) ≡ greatest (map (rounding I G) s)
  unfolding rounding rounded
  most_from h [] = refl
  most_from h (x ∷ xs) = ap (max _) (most_from h xs)

  pub most_within : (s : Claim) → greatest (map (rounding I G) s) ≤ sum_by (rounded I G) s
  unfolding rounding
  most_within [] = omega arith
  most_within (x ∷ xs) = rw (sum_by-cons (rounded I G) x xs) (let k = most_within xs in omega arith)

  over_from : (C h : ℕ) (s : Claim) → ((e : Entry) → IsIn e s → Counts I T G e) → 1 ≤ G → h % G ≡ 0 → s ≢ [] →
      C + 1 - stack_height I 0 G s ≤ h → IsOver I C T h G (from_height h s)
  over_from C h s c pos m ne le = record {
    modulus = pos;
    from_multiple = m;
    some_stacked = λ q. not_none h s ne (sym (stacked_from h s c) ∙ q);
    too_high = rw (stacked_from h s c, sum_from h s, most_from h s)
        (reaches_above C h (sum_by (rounded I G) s) (greatest (map (rounding I G) s)) (most_within s)
        (rw (on_ground I G s) at le));
  }

  not_over : (C h : ℕ) (s : Claim) → ((e : Entry) → IsIn e s → Counts I T G e) → h + stack_height I 0 G s ≤ C →
      IsOver I C T h G (from_height h s) → ⊥
  not_over C h s c le over =
      not_above C h (sum_by (rounded I G) s) (greatest (map (rounding I G) s)) (rw (on_ground I G s) at le)
      (rw (stacked_from h s c, sum_from h s, most_from h s) at over.too_high) (most_within s)

lower_again : (h g : ℕ) (s : Claim) → map (λ e. (e.0, g)) (from_height h s) ≡ from_height g s
lower_again h g [] = refl
lower_again h g (x ∷ xs) = ap (λ (l : Claim). (x.0, g) ∷ l) (lower_again h g xs)

-- ---- the line, as the code makes it
pub height_is : (I : Instance) (C G : ℕ) (s : Claim) (sum most above h : ℕ) → sum ≡ sum_by (rounded I G) s →
    most ≡ greatest (map (rounding I G) s) → above ≡ C + 1 - (sum - most) → h ≡ next_multiple_of above G →
    h ≡ least_height I C G s
unfolding least_height
height_is I C G s sum most above h p q r t =
    rw (t, r, p, q) (ap (λ n. next_multiple_of (C + 1 - n) G) (sym (on_ground I G s)))

pub pairs_are : (h : ℕ) (s : Claim) (members : List ℕ) (pairs : Claim) → members ≡ buffers_of s →
    pairs ≡ map (λ (b : ℕ). let e : Entry = (b, h) in e) members → pairs ≡ from_height h s
pairs_are h s members pairs p q = q ∙ rw p (go s)
  where
    go : (s : Claim) → map (λ (b : ℕ). let e : Entry = (b, h) in e) (buffers_of s) ≡ from_height h s
    go [] = refl
    go (x ∷ xs) = ap (λ (l : Claim). (x.0, h) ∷ l) (go xs)

-- ---- the eased line
module _ (I : Instance) (C : ℕ) (l : Claim) (T H G : ℕ) (s : Stands I l) (over : IsOver I C T H G l) where
  -- what the line stacks, and the least height
  abbrev members : Claim
  members = stacked I l T H G

  abbrev height : ℕ
  height = least_height I C G members

  from_members : (e : Entry) → IsIn e members → IsIn e l × Counts I T G e × (H ≤ up I e)
  unfolding is_stacked
  from_members e i =
      let q = from_filter (is_stacked I T H G) l e i in
      let r = and_true (is_live (buffer I e.0) T && nat_le H (up I e)) ((buffer I e.0).alignment % G == 0) q.1 in
      let t = and_true (is_live (buffer I e.0) T) (nat_le H (up I e)) r.0 in (
        q.0,
        record {
          live = t.0;
          multiple = r.1;
          aligned = (sound_buffer I e.0 s.buffers (s.claim.in_range e q.0)).sound.1;
        },
        at_most H (up I e) t.1,
      )

  count : (e : Entry) → IsIn e members → Counts I T G e
  count e i = (from_members e i).1

  from_claim : (h : ℕ) (e : Entry) → IsIn e (from_height h members) → (f : Entry) × IsIn f members × (e ≡ (f.0, h))
  from_claim h e i = from_map (λ (f : Entry). let g : Entry = (f.0, h) in g) members e i

  height_limit : height ≤ H
  unfolding least_height
  height_limit = rw (on_ground I G members)
      (least_within C H (sum_by (rounded I G) members) (greatest (map (rounding I G) members)) G over.modulus
      over.from_multiple over.too_high)

  pub from_is_claim : (h : ℕ) → IsClaim I (from_height h members)
  from_is_claim h = record {
    rises = rw (buffers_of-map (λ f. h) members) (rises-filter (is_stacked I T H G) l s.claim.rises);
    in_range = λ e i. let q = from_claim h e i in
        rw q.2 (s.claim.in_range q.0 (from_members q.0 q.1).0);
  }

  pub from_count : (h : ℕ) → length (from_height h members) < 2 ^ 32
  from_count h =
      let c = from_is_claim h in
      let k : length (from_height h members) ≤ length I =
      length_within (from_height h members) (length I) c.rises c.in_range in
      let m : length I ≤ buffer_limit = s.count in omega arith

  pub from_bounds : (n h : ℕ) → h ≡ height → H ≤ n → IsBoundedBy n (from_height h members)
  from_bounds n h q le e i =
      let b = ap (λ (e : Entry). e.1) (from_claim h e i).2 in let k = height_limit in omega arith

  legal : (earlier : List Line) → IsLegal I C earlier (eased_over I C l T H G)
  unfolding least_height
  legal earlier = record {
    claim = from_is_claim height;
    not_empty = λ q. not_none height members over.some_stacked q;
    reason = over_from I T G C height members count over.modulus
        (next_is_multiple (C + 1 - stack_height I 0 G members) G over.modulus) over.some_stacked
        (next_at_or_above (C + 1 - stack_height I 0 G members) G over.modulus);
  }

  covers : Covers I (from_height height members) l
  covers e i =
      let q = from_claim height e i in
      let r = from_members q.0 q.1 in (
        q.0,
        r.0,
        sym (ap (λ (e : Entry). e.0) q.2),
        let b = ap (λ (e : Entry). e.1) q.2 in let k = height_limit in
            let m = r.2 in omega arith,
      )

  lean : (earlier : List Line) → IsLeanOver I C earlier (from_height height members) T height G
  unfolding least_height
  lean earlier = record {
    live = λ e i. let q = from_claim height e i in rw q.2 (count q.0 q.1).live;
    bounds = λ e i. ap (λ (e : Entry). e.1) (from_claim height e i).2;
    lowest = elim (zero_or_fits C (stack_height I 0 G members) G over.modulus) [
      | inl q ↦ inl q
      | inr le ↦ inr (λ (k : IsLegal I C earlier
          (Over (map (λ e. (e.0, height - G)) (from_height height members)) T (height - G) G)).
          not_over I T G C (height - G) members count le (rw (lower_again height (height - G) members) at k.reason))
    ];
  }

  pub over_eased : (earlier : List Line) → IsWithin (Over l T H G) →
      IsEased I C earlier (Over l T H G) (eased_over I C l T H G)
  over_eased earlier w = record {
    legal = legal earlier;
    within = (
      from_bounds (2 ^ 60) height refl w.2,
      w.1,
      let k = height_limit in let m = w.2 in omega arith,
      w.3,
    );
    covers = covers;
    lean = lean earlier;
  }
