-- The Over line of the buffers of a claim at the start of a section that is too full.
use Rattle.std.proofs.Common.{◌≡◌, ◌≢◌, inl, inr, ℕ, ◌+◌, ◌%◌, ◌<◌, ◌≤◌, ◌==◌, ◌&&◌, Bool, true, false, cond, nat_le, nat_lt, List, [], ◌∷◌, map, filter, length, Option, Some, None, refl, sym, ap, ◌∙◌, subst, arith, sum_by}
use Rattle.std.proofs.lemmas.Bool.Decides.{nat_tests}
use Rattle.std.proofs.lemmas.List.Sums.{sum_by-cons}
use Rattle.branching.proofs.Words.{Instance, IsLive, buffer, is_live, Claim, Entry, IsClaim, IsIn, Rises, buffers_of, up, Line, Over, IsLegal, is_stacked, rounded, rounding, greatest, numbers, from_filter, from_map, into_filter, into_map, some_answer, and_true, rises-filter, in_buffers, AreSectionsOf, SectionList, count_of, members_of, start_of, HasBuffer, entry_of, Stands, entry_in, is_at_most, less}
use Rattle.lifetime.proofs.Live.{from_live, into_live, rises_live}
use Rattle.dsa_terms.proofs.Ranges.{rises-filter_numbers, below}
use Rattle.skyline.specs.Overloads.{free_load, is_left, least_of, least_up, over, over_at, overloaded}
use Rattle.skyline.proofs.Loads.{gives_left, left_gives}
use Rattle.skyline.proofs.Overloads.{least_is_least}
use Rattle.claim_levels.specs.Lifted.{lift, lifted}
use Rattle.claim_levels.proofs.Lifting.{lifted_rises, up_of_lift}
use Rattle.branching.proofs.Descent.{is_instance}
use Rattle.branching.proofs.TallLines.{rounded_is, rounding_is}

-- ---- lists that rise
-- two lists that rise and have the same items are equal
pub same_rising : (xs ys : List ℕ) → Rises xs → Rises ys → ((x : ℕ) → IsIn x xs → IsIn x ys) →
    ((x : ℕ) → IsIn x ys → IsIn x xs) → xs ≡ ys
same_rising [] [] r s h k = refl
same_rising [] (y ∷ ys) r s h k = absurd (k y (inl refl))
same_rising (x ∷ xs) [] r s h k = absurd (h x (inl refl))
same_rising (x ∷ xs) (y ∷ ys) r s h k =
    ap (λ zs. x ∷ zs) (same_rising xs ys r.1 s.1
    (λ z i. later z x y ys first (r.0 z i) (h z (inr i))) (λ z i. later z y x xs (sym first) (s.0 z i) (k z (inr i))))
    ∙ ap (λ (z : ℕ). z ∷ ys) first
  where
    first : x ≡ y
    first = elim (h x (inl refl)) [
      | inl e ↦ e
      | inr i ↦ elim (k y (inl refl)) [
        | inl e ↦ sym e
        | inr j ↦ absurd (let a : y < x = s.0 x i in let b : x < y = r.0 y j in omega arith)
      ]
    ]

    later : (z a b : ℕ) (zs : List ℕ) → a ≡ b → a < z → IsIn z (b ∷ zs) → IsIn z zs
    later z a b zs e lt (inl q) = absurd (omega arith)
    later z a b zs e lt (inr i) = i

-- ---- sums over a claim and over its buffers
sum_of_buffers : (g : Entry → ℕ) (f : ℕ → ℕ) (es : List Entry) → ((e : Entry) → g e ≡ f e.0) →
    sum_by g es ≡ sum_by f (buffers_of es)
sum_of_buffers g f [] h = refl
sum_of_buffers g f (e ∷ es) h =
    let a = sum_by-cons g e es in
    let b = sum_by-cons f e.0 (buffers_of es) in
    let c = sum_of_buffers g f es h in
    let d = h e in
    omega arith

greatest_of_none : (g : Entry → ℕ) (es : List Entry) → ((e : Entry) → g e ≡ 0) → greatest (map g es) ≡ 0
greatest_of_none g [] h = refl
greatest_of_none g (e ∷ es) h = let a = h e in let b = greatest_of_none g es h in omega arith

-- ---- the section
-- a start and a height
abbrev pub found : ℕ → ℕ → Option (ℕ × ℕ)
found start height = Some (start, height)

-- what they are, where they are there
abbrev start_in : Option (ℕ × ℕ) → ℕ
start_in None = 0
start_in (Some p) = p.0

abbrev height_in : Option (ℕ × ℕ) → ℕ
height_in None = 0
height_in (Some p) = p.1

-- the section is too full from the height on
pub record IsFull (I : Instance) (S : SectionList) (l : Claim) (C T H s : ℕ) : Type 0 where
  pub in_range : s < count_of S
  pub start : T ≡ start_of S s
  pub least : least_up I S l s ≡ Some H
  pub full : C < H + free_load I S l s

pub full_section : (I : Instance) (S : SectionList) (l : Claim) (C T H : ℕ) → overloaded I S l C ≡ found T H →
    (s : ℕ) × IsFull I S l C T H s
unfolding overloaded over
full_section I S l C T H e =
    let r = some_answer (over I S l C) (numbers (count_of S)) (T, H) e in
    (r.0, of_answer r.0 (below (count_of S) r.0 r.1) (least_up I S l r.0) refl r.2)
  where
    of_answer : (s : ℕ) → s < count_of S → (o : Option ℕ) → least_up I S l s ≡ o →
        over_at (start_of S s) (free_load I S l s) C o ≡ found T H → IsFull I S l C T H s
    of_answer s lt None q e = absurd (let k : None ≡ found T H = e in cc)
    of_answer s lt (Some h) q e = go (nat_lt C (h + free_load I S l s)) refl e
      where
        go : (t : Bool) → nat_lt C (h + free_load I S l s) ≡ t → cond t (found (start_of S s) h) None ≡ found T H →
            IsFull I S l C T H s
        go true t e =
            let a : start_of S s ≡ T = ap start_in e in
            let b : h ≡ H = ap height_in e in
            record {
              in_range = lt;
              start = sym a;
              least = q ∙ ap (λ (h : ℕ). Some h) b;
              full = let f = less C (h + free_load I S l s) t in omega arith;
            }
        go false t e = absurd (let k : None ≡ found T H = e in cc)

module _ (I : Instance) (S : SectionList) (l : Claim) (C T H s : ℕ) (p : AreSectionsOf I S) (stands : Stands I l)
    (f : IsFull I S l C T H s) where
  -- they are live at its start
  live_there : (b : ℕ) → IsIn b (members_of S s) → (b < length I) × IsLive (buffer I b) T
  live_there b i = let r = from_live I (start_of S s) b (subst (IsIn b) (p.live s f.in_range) i) in
      (r.0, subst (IsLive (buffer I b)) (sym f.start) r.1)

  -- and stand at the height or above
  high : (b : ℕ) → IsIn b (filter (is_left l) (members_of S s)) → H ≤ up I (entry_of l b)
  unfolding least_up
  high b i = least_is_least (map (λ b. up I (entry_of l b)) (filter (is_left l) (members_of S s))) H
      (up I (entry_of l b)) f.least
      (into_map (λ b. up I (entry_of l b)) (filter (is_left l) (members_of S s)) b i)

  tests : (a : ℕ) (live up : Bool) → live ≡ true → up ≡ true → (live && up && (a % 1 == 0)) ≡ true
  tests a live up p q = rw (p, q) (by_one a)
    where
      by_one : (a : ℕ) → (a % 1 == 0) ≡ true
      by_one a = grind (arith, nat_tests)

  is_stacked_left : (b : ℕ) → IsIn b (filter (is_left l) (members_of S s)) →
      is_stacked I T H 1 (lift I (entry_of l b)) ≡ true
  unfolding is_stacked
  is_stacked_left b i =
      let m = from_filter (is_left l) (members_of S s) b i in
      tests (buffer I b).alignment (is_live (buffer I b) T) (nat_le H (up I (lift I (entry_of l b))))
      ((live_there b m.0).1)
      (let u = up_of_lift I (entry_of l b) (is_instance I l stands) in let h = high b i in
      is_at_most H (up I (lift I (entry_of l b))) (omega arith))

  stacked_live : (e : Entry) → is_stacked I T H 1 e ≡ true → IsLive (buffer I e.0) T
  unfolding is_stacked
  stacked_live e t = (and_true (is_live (buffer I e.0) T) (nat_le H (up I e))
      (and_true (is_live (buffer I e.0) T && nat_le H (up I e)) ((buffer I e.0).alignment % 1 == 0) t).0).0

  left_stacked : (b : ℕ) → IsIn b (filter (is_left l) (members_of S s)) →
      IsIn b (buffers_of (filter (is_stacked I T H 1) (lifted I l)))
  left_stacked b i =
      let m = from_filter (is_left l) (members_of S s) b i in
      let j = into_map (lift I) l (entry_of l b) (entry_in l b (left_gives l b m.1)) in
      in_buffers (filter (is_stacked I T H 1) (lifted I l)) (lift I (entry_of l b))
      (into_filter (is_stacked I T H 1) (lifted I l) (lift I (entry_of l b)) j (is_stacked_left b i))

  stacked_left : (b : ℕ) → IsIn b (buffers_of (filter (is_stacked I T H 1) (lifted I l))) →
      IsIn b (filter (is_left l) (members_of S s))
  stacked_left b i =
      let e = from_map (λ (e : Entry). e.0) (filter (is_stacked I T H 1) (lifted I l)) b i in
      let j = from_filter (is_stacked I T H 1) (lifted I l) e.0 e.1 in
      let r = from_map (lift I) l e.0 j.0 in
      let q : b ≡ r.0.0 = e.2 ∙ ap (λ (e : Entry). e.0) r.2 in
      let live : IsLive (buffer I b) T = subst (λ b. IsLive (buffer I b) T) (sym e.2) (stacked_live e.0 j.1) in
      let has : HasBuffer l b = subst (HasBuffer l) (sym q) (in_buffers l r.0 r.1) in
      let lt : r.0.0 < length I = stands.claim.in_range r.0 r.1 in
      into_filter (is_left l) (members_of S s) b
      (subst (IsIn b) (sym (p.live s f.in_range))
      (into_live I (start_of S s) b (omega arith) (subst (IsLive (buffer I b)) f.start live)))
      (gives_left l b has)

  same_buffers : buffers_of (filter (is_stacked I T H 1) (lifted I l)) ≡ filter (is_left l) (members_of S s)
  same_buffers = same_rising (buffers_of (filter (is_stacked I T H 1) (lifted I l)))
      (filter (is_left l) (members_of S s))
      (rises-filter (is_stacked I T H 1) (lifted I l) (lifted_rises I l stands.claim.rises))
      (rises-filter_numbers (is_left l) (members_of S s)
      (subst Rises (sym (p.live s f.in_range)) (rises_live I (start_of S s))))
      stacked_left left_stacked

  load_is : sum_by (rounded I 1) (filter (is_stacked I T H 1) (lifted I l)) ≡ free_load I S l s
  unfolding free_load
  load_is =
      sum_of_buffers (rounded I 1) (λ b. (buffer I b).size) (filter (is_stacked I T H 1) (lifted I l)) (rounded_is I)
      ∙ ap (sum_by (λ b. (buffer I b).size)) same_buffers

  some_there : filter (is_stacked I T H 1) (lifted I l) ≢ []
  unfolding least_up
  some_there q =
      let n : filter (is_left l) (members_of S s) ≡ [] = sym same_buffers ∙ ap buffers_of q in
      let e : least_of (map (λ b. up I (entry_of l b)) (filter (is_left l) (members_of S s))) ≡ None =
      ap (λ bs. least_of (map (λ b. up I (entry_of l b)) bs)) n in
      let k = f.least in
      cc

  pub full_is_legal : (earlier : List Line) → IsClaim I (lifted I l) → IsLegal I C earlier (Over (lifted I l) T H 1)
  full_is_legal earlier claim = record {
    claim = claim;
    not_empty = λ q. some_there (ap (filter (is_stacked I T H 1)) q);
    reason = record {
      modulus = omega arith;
      from_multiple = omega arith;
      some_stacked = some_there;
      too_high =
          let a = load_is in
          let b = greatest_of_none (rounding I 1) (filter (is_stacked I T H 1) (lifted I l)) (rounding_is I) in
          let c = f.full in
          omega arith;
    };
  }

  -- the start is a moment at which some buffer is live
  pub some_live : (b : ℕ) × (b < length I) × IsLive (buffer I b) T
  some_live = go (members_of S s) (p.not_empty s f.in_range) (λ b i. live_there b i)
    where
      go : (ms : List ℕ) → ms ≢ [] → ((b : ℕ) → IsIn b ms → (b < length I) × IsLive (buffer I b) T) →
          (b : ℕ) × (b < length I) × IsLive (buffer I b) T
      go [] ne h = absurd (ne refl)
      go (b ∷ bs) ne h = let k = h b (inl refl) in (b, k.0, k.1)
