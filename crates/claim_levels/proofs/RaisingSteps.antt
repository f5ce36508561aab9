-- The levels of a child in the making, one buffer after another.
use Rattle.std.proofs.Common.{◌≡◌, ◌≢◌, ℕ, ◌+◌, ◌-◌, ◌<◌, ◌≤◌, ◌^◌, ◌⊎◌, inl, inr, List, [], ◌∷◌, ◌++◌, max, All, Bool, true, false, cond, nat_lt, length, slice_index, slice_set, ap, sym, ◌∙◌, subst, refl, arith, length-set}
use Rattle.std.proofs.lemmas.List.{get_or_past}
use Rattle.claim_levels.proofs.Words.{Instance, IsInstance, buffer, do_share, Claim, Entry, IsIn, child, step, true_or_false, below_or_from, less, same_or_not, left_append, right_append, from_append, AreSectionsOf, SectionList, members_of, sections_of, entry_of, AreLevels, IsLevel, from_child, in_child_by, has_level, level_in_range, level_inside}
use Rattle.skyline.proofs.SectionFacts.{listed_in, section_in_range, shared_sections}
use Rattle.claim_levels.specs.declared.raising.Raising.{Raising}
use Rattle.claim_levels.specs.Children.{AreOfChild}
use Rattle.claim_levels.specs.Levels.{HasLowChild, IsLeastLevel}
use Rattle.claim_levels.specs.Raisings.{IsRaised, IsRaising}
use Rattle.claim_levels.proofs.ChildLevels.{level_stays, set_cases}
use Rattle.claim_levels.proofs.Grounding.{some_within}

-- what holds of each number of a list that none is above
pub under_each : (levels : List ℕ) (top : ℕ) → All (λ level. level ≤ top) levels → (c : ℕ) → slice_index levels c ≤ top
under_each levels top under c = elim (below_or_from c (length levels)) [
  | inl lt ↦ under c 0 lt
  | inr le ↦ (let z : slice_index levels c ≡ 0 = get_or_past levels c 0 le in omega arith)
]

module _ (I : Instance) (levels : List ℕ) (b : ℕ) where
  -- ---- a level that is written
  module _ (old new : List ℕ) (c v : ℕ) (lt : c < length old) (q : new ≡ slice_set old c v)
      (is : (l : Claim) → AreLevels I l levels → IsLevel I (child I l (entry_of l b)) c v) where
    written : (d : ℕ) → ((d ≡ c) × (slice_index new d ≡ v)) ⊎ ((d ≢ c) × (slice_index new d ≡ slice_index old d))
    written d = subst (λ (xs : List ℕ). ((d ≡ c) × (slice_index xs d ≡ v))
        ⊎ ((d ≢ c) × (slice_index xs d ≡ slice_index old d))) (sym q) (set_cases old c v d lt)

    raised_here : (d : ℕ) → d ≡ c → slice_index new d ≡ v → IsRaised I levels b new d
    raised_here d e p = λ more l a. subst (λ (n : ℕ). IsLevel I (child I l (entry_of l b)) n (slice_index new d))
        (sym e) (subst (IsLevel I (child I l (entry_of l b)) c) (sym p) (is l a))

    pub raised_still : (d : ℕ) → IsRaised I levels b old d → IsRaised I levels b new d
    raised_still d h = elim (written d) [
      | inl r ↦ raised_here d r.0 r.1
      | inr r ↦ (λ more l a. subst (IsLevel I (child I l (entry_of l b)) d) (sym r.1) (h more l a))
    ]

  -- the level in the claim is noted, and that in the child written in its place
  pub raising_next : (old new : Raising) (c v : ℕ) → c < length old.numbers.items →
      new.numbers.items ≡ slice_set old.numbers.items c v → new.top ≡ max old.top v →
      new.changes.items ≡ old.changes.items ++ (c, slice_index levels c) ∷ [] →
      ((l : Claim) → AreLevels I l levels → IsLevel I (child I l (entry_of l b)) c v) →
      0 < slice_index levels c → v ≤ 2 ^ 55 → IsRaising I levels b old → IsRaising I levels b new
  raising_next old new c v lt q t n is more low h = record {
    count = ap length q ∙ length-set old.numbers.items c v ∙ h.count;
    outside = λ d z. elim (at d) [
      | inl r ↦ absurd (let p = ap (slice_index levels) r.0 in omega (arith, p, z, more))
      | inr r ↦ r.1 ∙ h.outside d z
    ];
    each = λ d. elim (at d) [
      | inl r ↦ inr (raised_here old.numbers.items new.numbers.items c v lt q is d r.0 r.1)
      | inr r ↦ elim (h.each d) [
        | inl same ↦ inl (r.1 ∙ same)
        | inr done ↦ inr (raised_still old.numbers.items new.numbers.items c v lt q is d done)
      ]
    ];
    under = λ d. elim (at d) [
      | inl r ↦ (let p = r.1 in omega (arith, p, t))
      | inr r ↦ (let p = r.1 in let k = h.under d in omega (arith, p, t, k))
    ];
    limit = (let k = h.limit in omega (arith, k, t, low));
    noted = λ d ne. elim (at d) [
      | inl r ↦ onto (d, slice_index levels d)
          (inr (ap (λ (d : ℕ). let e : Entry = (d, slice_index levels d) in e) r.0))
      | inr r ↦ onto (d, slice_index levels d) (inl (h.noted d (λ e. ne (r.1 ∙ e))))
    ];
    were = λ e i. elim (from e i) [
      | inl j ↦ h.were e j
      | inr p ↦ subst (λ (e : Entry). e.1 ≡ slice_index levels e.0) (sym p) refl
    ];
    some = λ e i. elim (from e i) [
      | inl j ↦ h.some e j
      | inr p ↦ subst (λ (e : Entry). 0 < slice_index levels e.0) (sym p) more
    ];
  }
    where
      at : (d : ℕ) → ((d ≡ c) × (slice_index new.numbers.items d ≡ v))
          ⊎ ((d ≢ c) × (slice_index new.numbers.items d ≡ slice_index old.numbers.items d))
      at d = written old.numbers.items new.numbers.items c v lt q is d

      onto : (e : Entry) → IsIn e old.changes.items ⊎ (e ≡ (c, slice_index levels c)) → IsIn e new.changes.items
      onto e h = subst (IsIn e) (sym n) (elim h [
        | inl i ↦ left_append old.changes.items ((c, slice_index levels c) ∷ []) e i
        | inr p ↦ right_append old.changes.items ((c, slice_index levels c) ∷ []) e (inl p)
      ])

      from : (e : Entry) → IsIn e new.changes.items → IsIn e old.changes.items ⊎ (e ≡ (c, slice_index levels c))
      from e i = elim (from_append old.changes.items ((c, slice_index levels c) ∷ []) e (subst (IsIn e) n i)) [
        | inl j ↦ inl j
        | inr j ↦ elim j [ inl p ↦ inr p | inr z ↦ absurd z ]
      ]

  -- the levels of the claim, of which none has changed
  pub raising_first : (r : Raising) → r.numbers.items ≡ levels → r.changes.items ≡ [] →
      All (λ level. level ≤ r.top) levels → r.top ≤ 2 ^ 55 → IsRaising I levels b r
  raising_first r q n under limit = record {
    count = ap length q;
    outside = λ c z. at c ∙ z;
    each = λ c. inl (at c);
    under = λ c. (let k = under_each levels r.top under c in let e = at c in omega (arith, k, e));
    limit = limit;
    noted = λ c ne. absurd (ne (at c));
    were = λ e i. absurd (subst (IsIn e) n i);
    some = λ e i. absurd (subst (IsIn e) n i);
  }
    where
      at : (c : ℕ) → slice_index r.numbers.items c ≡ slice_index levels c
      at c = ap (λ (xs : List ℕ). slice_index xs c) q

  -- one that did not change
  pub raising_still : (old new : Raising) → (new.numbers.items ≡ old.numbers.items) × (new.top ≡ old.top)
      × (new.changes.items ≡ old.changes.items) → IsRaising I levels b old → IsRaising I levels b new
  raising_still old new q h = record {
    count = ap length q.0 ∙ h.count;
    outside = λ c z. at c ∙ h.outside c z;
    each = λ c. subst (λ (xs : List ℕ). (slice_index xs c ≡ slice_index levels c) ⊎ IsRaised I levels b xs c)
        (sym q.0) (h.each c);
    under = λ c. (let k = h.under c in let e = at c in let t = q.1 in omega (arith, k, e, t));
    limit = (let k = h.limit in let t = q.1 in omega (arith, k, t));
    noted = λ c ne. subst (IsIn (c, slice_index levels c)) (sym q.2) (h.noted c (λ e. ne (at c ∙ e)));
    were = λ e i. h.were e (subst (IsIn e) q.2 i);
    some = λ e i. h.some e (subst (IsIn e) q.2 i);
  }
    where
      at : (c : ℕ) → slice_index new.numbers.items c ≡ slice_index old.numbers.items c
      at c = ap (λ (xs : List ℕ). slice_index xs c) q.0

-- ---- where the buffer is the first choice
-- a buffer that shares no moment with it is high enough
unshared_above : (I : Instance) (b c m n : ℕ) → do_share (buffer I b) (buffer I c) ≡ false →
    (m < n) ⊎ ((m ≡ n) × (b ≤ c)) → 0 < m → m - 1 + step I b c < n
unfolding step
unshared_above I b c m n q h some = rw q (go (nat_lt c b) refl)
  where
    go : (t : Bool) → nat_lt c b ≡ t → m - 1 + cond t 1 0 < n
    go true e = let k = less c b e in elim h [
      | inl lt ↦ omega (arith, lt, some)
      | inr p ↦ absurd (let le = p.1 in omega (arith, le, k))
    ]
    go false e = elim h [ inl lt ↦ omega (arith, lt, some) | inr p ↦ (let same = p.0 in omega (arith, same, some)) ]

pub raised_near : (I : Instance) (S : SectionList) (levels : List ℕ) (b : ℕ) (r : Raising) → IsInstance I →
    HasLowChild I levels b → AreSectionsOf I S → IsLeastLevel levels b → IsRaising I levels b r →
    ((s c : ℕ) → IsIn s (sections_of S b) → IsIn c (members_of S s) → IsRaised I levels b r.numbers.items c) →
    IsRaised I levels b r.numbers.items b → (c : ℕ) → IsRaised I levels b r.numbers.items c
raised_near I S levels b r s low p first h near own c = elim (h.each c) [
  | inr done ↦ done
  | inl same ↦ λ more l a. (
      let bn = level_in_range I low.above levels low.are b low.has in
      let cn = level_in_range I l levels a c (has_level I l levels a c more) in
      let some = first.some c more in
      elim (same_or_not c b) [
        | inl q ↦ subst (λ (n : ℕ). IsLevel I (child I l (entry_of l b)) n (slice_index r.numbers.items n)) (sym q)
            (own (first.some c more) l a)
        | inr ne ↦ elim (true_or_false (do_share (buffer I b) (buffer I c))) [
          | inl t ↦ (let w = (shared_sections I S p b c bn cn).0 t in
              near w.0 c w.1 ((listed_in I S p w.0 c cn (section_in_range I S p w.0 b bn w.1)).0 w.2) more l a)
          | inr f ↦ subst (IsLevel I (child I l (entry_of l b)) c) (sym same)
              (level_stays I l _ b a c (slice_index levels b - 1 + step I b c) s (has_level I l levels a b some)
              more ne refl
              (unshared_above I b c (slice_index levels b) (slice_index levels c) f (first.before c more) some))
        ]
      ]
      )
]

-- ---- one buffer
module _ (I : Instance) (levels : List ℕ) (b c : ℕ) (r : Raising) (h : IsRaising I levels b r) where
  pub some_before : 0 < slice_index r.numbers.items c → 0 < slice_index levels c
  some_before more = elim (below_or_from 0 (slice_index levels c)) [
    | inl lt ↦ lt
    | inr le ↦ absurd (let z = h.outside c (omega (arith, le)) in omega (arith, z, more))
  ]

  pub raised_without : slice_index r.numbers.items c ≡ 0 → IsRaised I levels b r.numbers.items c
  raised_without z = elim (h.each c) [
    | inl same ↦ λ more l a. absurd (omega (arith, same, z, more))
    | inr done ↦ done
  ]

-- one buffer after another
abbrev pub AreRaisedBut : Instance → List ℕ → ℕ → Raising → List ℕ → List ℕ → Type 0
AreRaisedBut I levels b r buffers left = (c : ℕ) → IsIn c buffers → IsIn c left ⊎ IsRaised I levels b r.numbers.items c

pub raised_next : (I : Instance) (levels : List ℕ) (b : ℕ) (old new : Raising) (buffers left rest : List ℕ) (x : ℕ) →
    left ≡ x ∷ rest → IsRaised I levels b new.numbers.items x →
    ((d : ℕ) → IsRaised I levels b old.numbers.items d → IsRaised I levels b new.numbers.items d) →
    AreRaisedBut I levels b old buffers left → AreRaisedBut I levels b new buffers rest
raised_next I levels b old new buffers left rest x q here kept h c i = elim (h c i) [
  | inl there ↦ elim (subst (IsIn c) q there) [
    | inl is ↦ inr (subst (IsRaised I levels b new.numbers.items) (sym is) here)
    | inr later ↦ inl later
  ]
  | inr done ↦ inr (kept c done)
]

-- ---- where a level is put
module _ (I : Instance) (levels : List ℕ) (b : ℕ) (old : Raising) (c now v : ℕ)
    (at : now ≡ slice_index old.numbers.items c) (some : 0 < now) (low : HasLowChild I levels b)
    (level : (l : Claim) → AreLevels I l levels → now ≡ slice_index levels c →
    IsLevel I (child I l (entry_of l b)) c v)
    (again : (l : Claim) → AreLevels I l levels → IsLevel I (child I l (entry_of l b)) c now → v ≡ now)
    (h : IsRaising I levels b old) where
  more : 0 < slice_index levels c
  more = some_before I levels b c old h (omega (arith, at, some))

  within : c < length old.numbers.items
  within = let lt = some_within levels c more in let n = h.count in omega (arith, lt, n)

  put_before : now ≢ v → now ≡ slice_index levels c
  put_before ne = elim (h.each c) [
    | inl same ↦ at ∙ same
    | inr done ↦ absurd (ne (sym (again low.above low.are
        (subst (IsLevel I (child I low.above (entry_of low.above b)) c) (sym at) (done more low.above low.are)))))
  ]

  module _ (new : Raising) (ne : now ≢ v) (q : new.numbers.items ≡ slice_set old.numbers.items c v) where
    put_is : (l : Claim) → AreLevels I l levels → IsLevel I (child I l (entry_of l b)) c v
    put_is l a = level l a (put_before ne)

    pub put_raising : new.top ≡ max old.top v → new.changes.items ≡ old.changes.items ++ (c, now) ∷ [] →
        (now ≡ slice_index levels c → v ≤ 2 ^ 55) → IsRaising I levels b new
    put_raising t n limit = raising_next I levels b old new c v within q t
        (n ∙ ap (λ (m : ℕ). let cs : List Entry = old.changes.items ++ (c, m) ∷ [] in cs) (put_before ne))
        put_is more (limit (put_before ne)) h

    pub put_kept : (d : ℕ) → IsRaised I levels b old.numbers.items d → IsRaised I levels b new.numbers.items d
    put_kept = raised_still I levels b old.numbers.items new.numbers.items c v within q put_is

-- ---- all levels of a child
pub raised_child : (I : Instance) (levels : List ℕ) (b : ℕ) (r : Raising) → HasLowChild I levels b →
    IsRaising I levels b r → ((c : ℕ) → IsRaised I levels b r.numbers.items c) →
    AreOfChild levels b r.numbers.items
raised_child I levels b r low h done = record {
  own = (done b (let q = level_inside I l levels low.are b low.has in omega (arith, q)) l low.are).outside
      (λ i. (from_child I l b b i).1 refl);
  some = λ c. some_before I levels b c r h;
  all = λ c ne more.
      let k = (done c more l low.are).inside (in_child_by I l b c (has_level I l levels low.are c more) ne) in
      omega (arith, k);
}
  where
    l : Claim
    l = low.above
