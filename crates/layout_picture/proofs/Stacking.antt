-- One buffer lies upon another where an upper side meets a lower one.
use Rattle.std.proofs.Common.{◌≡◌, ◌≢◌, ℕ, ◌<◌, ◌≤◌, ◌⊎◌, inl, inr, Bool, true, false, ◌==◌, ◌&&◌, ◌||◌, max, min, List, length, map, get_or, refl, ap, sym, subst, ◌∙◌, arith}
use Rattle.std.specs.List.{All}
use Rattle.dsa_terms.specs.Buffers.{Instance, IsInstance, IsLive, buffer, do_share}
use Rattle.dsa_terms.specs.Claims.{IsIn, Rises}
use Rattle.dsa_terms.proofs.Lists.{from_map, into_map, true_or_false}
use Rattle.dsa_terms.proofs.Moments.{do_share-false, do_share-gives, sound}
use Rattle.dsa_terms.proofs.NumberTests.{below_or_from, equal, same}
use Rattle.dsa_terms.proofs.Places.{all_from_in, in_at}
use Rattle.lifetime.proofs.Lists.{rises_at}
use Rattle.layout_picture.specs.Colours.{end_of, follow, lie_upon, overlap, touch}
use Rattle.layout_picture.specs.Columns.{IsInColumn, columns_of}
use Rattle.layout_picture.specs.Laws.{HasColumn}
use Rattle.layout_picture.specs.Rectangles.{rectangles}
use Rattle.layout_picture.specs.Sides.{IsMet, IsSide, IsTouching, lower_side, pair_of, upper_side}
use Rattle.layout_picture.specs.declared.rectangle.Rectangle.{Rectangle}
use Rattle.layout_picture.specs.declared.side.Side.{Side}
use Rattle.layout_picture.specs.declared.touching.Pair.{Pair}
use Rattle.layout_picture.proofs.Showing.{OfBuffer, columns_rise, none_between, of_buffer, shown}

-- ---- rectangles have sides
pub some_columns : (I : Instance) (offsets : List ℕ) (all : List Rectangle) (side : Rectangle → Side)
    (sides : List Side) →
    all ≡ rectangles I offsets → sides ≡ map side all →
    ((r : Rectangle) → r.first < r.end → IsSide (side r)) → All IsSide sides
some_columns I offsets all side sides e f h = rw f (all_from_in IsSide (map side all) (λ s i.
    let m = from_map side all s i in
    let o = of_buffer I offsets m.0 (subst (IsIn m.0) e m.1) in subst IsSide (sym m.2) (h m.0 o.some)))

-- ---- a pair of buffers, whichever is the later
pub pair_touches : (I : Instance) (offsets : List ℕ) (b c : ℕ) → b ≢ c → b < length I → c < length I →
    touch I offsets b c ≡ true → touch I offsets c b ≡ true → IsTouching I offsets (pair_of b c)
pair_touches I offsets b c ne lb lc t u = elim (below_or_from b c) [
  | inl lt ↦ let later : max b c ≡ c = omega arith in let earlier : min b c ≡ b = omega arith in
      rw (later, earlier) (record { order = lt; in_range = lc; touching = t })
  | inr le ↦ let later : max b c ≡ b = omega arith in let earlier : min b c ≡ c = omega arith in
      rw (later, earlier) (record { order = less b c le ne; in_range = lb; touching = u })
]
  where
    less : (b c : ℕ) → c ≤ b → b ≢ c → c < b
    less b c le ne = grind arith

pub pair_is : (p : Pair) (b c : ℕ) → p.earlier < p.later → b ≡ p.earlier → c ≡ p.later → p ≡ pair_of b c
pair_is p b c lt e f =
    let later : max b c ≡ p.later = omega arith in let earlier : min b c ≡ p.earlier = omega arith in
    rw (later, earlier) refl

pub pair_is_back : (p : Pair) (b c : ℕ) → p.earlier < p.later → b ≡ p.later → c ≡ p.earlier → p ≡ pair_of b c
pair_is_back p b c lt e f =
    let later : max b c ≡ p.later = omega arith in let earlier : min b c ≡ p.earlier = omega arith in
    rw (later, earlier) refl

-- ---- what meets, lies upon
do_both : (I : Instance) (b c t : ℕ) → IsLive (buffer I b) t → IsLive (buffer I c) t →
    do_share (buffer I b) (buffer I c) ≡ true
do_both I b c t p q = elim (true_or_false (do_share (buffer I b) (buffer I c))) [
  | inl h ↦ h
  | inr h ↦ absurd (do_share-false (buffer I b) (buffer I c) t h p q)
]

touch_upon : (I : Instance) (offsets : List ℕ) (b c : ℕ) →
    ((end_of I offsets b ≡ get_or offsets c 0) ⊎ (end_of I offsets c ≡ get_or offsets b 0)) →
    do_share (buffer I b) (buffer I c) ≡ true → touch I offsets b c ≡ true
unfolding touch
touch_upon I offsets b c e s = first (lie_upon I offsets b c) (follow I b c && overlap I offsets b c)
    (both (end_of I offsets b) (get_or offsets c 0)
    (end_of I offsets c) (get_or offsets b 0) (do_share (buffer I b) (buffer I c)) e s)
  where
    both : (m n k l : ℕ) (s : Bool) → (m ≡ n) ⊎ (k ≡ l) → s ≡ true → (((m == n) || (k == l)) && s) ≡ true
    both m n k l s (inl e) t = rw (same m n e, t) refl
    both m n k l s (inr e) t = rw (same k l e, t) (go (m == n))
      where
        go : (a : Bool) → ((a || true) && true) ≡ true
        go true = refl
        go false = refl

    first : (a x : Bool) → a ≡ true → (a || x) ≡ true
    first true x e = refl
    first false x e = absurd cc

pub stacked_touch : (I : Instance) (offsets : List ℕ) (all : List Rectangle) (p : Pair) → IsInstance I →
    all ≡ rectangles I offsets → IsMet (map upper_side all) (map lower_side all) p → IsTouching I offsets p
stacked_touch I offsets all p good e m =
    let u = from_map upper_side all m.end m.is_end in
    let l = from_map lower_side all m.begin m.is_begin in
    let o = of_buffer I offsets u.0 (subst (IsIn u.0) e u.1) in
    let q = of_buffer I offsets l.0 (subst (IsIn l.0) e l.1) in
    subst (IsTouching I offsets)
    (sym (m.is ∙ ap (λ (s : Side). pair_of s.buffer m.begin.buffer) u.2
    ∙ ap (λ (s : Side). pair_of u.0.buffer s.buffer) l.2))
    (these u.0 l.0 o q (sym (ap (λ (s : Side). s.line) u.2) ∙ m.meet.line ∙ ap (λ (s : Side). s.line) l.2)
    (let a = m.meet.begun in let b = ap (λ (s : Side). s.from) u.2 in let c = ap (λ (s : Side). s.to) l.2 in
    omega arith)
    (let a = m.meet.not_ended in let b = ap (λ (s : Side). s.from) l.2 in let c = ap (λ (s : Side). s.to) u.2 in
    omega arith))
  where
    these : (r s : Rectangle) → OfBuffer I offsets r → OfBuffer I offsets s → r.top ≡ s.place → r.first < s.end →
        s.first < r.end → IsTouching I offsets (pair_of r.buffer s.buffer)
    these r s o q e a b =
        let k = max r.first s.first in
        let in_first : HasColumn r k = record { from = omega arith; to = let z = o.some in omega arith } in
        let in_second : HasColumn s k = record { from = omega arith; to = let z = q.some in omega arith } in
        let x = o.live k in_first in
        let y = q.live k in_second in
        let z : end_of I offsets r.buffer ≡ get_or offsets s.buffer 0 = sym o.top ∙ e ∙ q.place in
        pair_touches I offsets r.buffer s.buffer (other z) o.in_range q.in_range
        (touch_upon I offsets r.buffer s.buffer (inl z) (do_both I r.buffer s.buffer _ x y))
        (touch_upon I offsets s.buffer r.buffer (inr z) (do_both I s.buffer r.buffer _ y x))
      where
        other : end_of I offsets r.buffer ≡ get_or offsets s.buffer 0 → r.buffer ≢ s.buffer
        other z = λ w. let k = ap (λ (c : ℕ). get_or offsets c 0) w in let n = (sound I r.buffer good).0 in omega arith

-- ---- what lies upon, meets
same_column : (ms : List ℕ) (t j k : ℕ) → Rises ms → IsInColumn ms t j → IsInColumn ms t k → j ≡ k
same_column ms t j k r a b = elim (below_or_from j k) [
  | inl lt ↦ absurd (not_less j k a b lt)
  | inr ge ↦ elim (below_or_from k j) [ inl lt ↦ absurd (not_less k j b a lt) | inr le ↦ omega arith ]
]
  where
    not_less : (j k : ℕ) → IsInColumn ms t j → IsInColumn ms t k → j < k → ⊥
    not_less j k a b lt = none_between ms t j (get_or ms k 0) r a (rises_at ms j k 0 r lt b.in_range) b.begun
        (in_at ms k 0 b.in_range)

pub touch_stacked : (I : Instance) (offsets : List ℕ) (all : List Rectangle) (p : Pair) →
    all ≡ rectangles I offsets → p.earlier < p.later → p.later < length I →
    lie_upon I offsets p.earlier p.later ≡ true → IsMet (map upper_side all) (map lower_side all) p
touch_stacked I offsets all p e lt lc h =
    let q = parts (end_of I offsets p.earlier) (get_or offsets p.later 0) (end_of I offsets p.later)
    (get_or offsets p.earlier 0) (do_share (buffer I p.earlier) (buffer I p.later)) h in
    let s = do_share-gives (buffer I p.earlier) (buffer I p.later) q.1 in
    let x = shown I offsets p.earlier s.0 (omega arith) s.1 in
    let y = shown I offsets p.later s.0 lc s.2 in
    let k : x.column ≡ y.column =
    same_column (columns_of I) s.0 x.column y.column (columns_rise I) x.of_moment y.of_moment in
    elim q.0 [
      | inl z ↦ these x.rectangle y.rectangle (subst (IsIn _) (sym e) x.drawn) (subst (IsIn _) (sym e) y.drawn)
          (x.top ∙ z ∙ sym y.place) (let a = x.has.from in let b = y.has.to in omega arith)
          (let a = y.has.from in let b = x.has.to in omega arith) (pair_is p _ _ lt x.own y.own)
      | inr z ↦ these y.rectangle x.rectangle (subst (IsIn _) (sym e) y.drawn) (subst (IsIn _) (sym e) x.drawn)
          (y.top ∙ z ∙ sym x.place) (let a = y.has.from in let b = x.has.to in omega arith)
          (let a = x.has.from in let b = y.has.to in omega arith) (pair_is_back p _ _ lt y.own x.own)
    ]
  where
    parts : (m n k l : ℕ) (s : Bool) → (((m == n) || (k == l)) && s) ≡ true → ((m ≡ n) ⊎ (k ≡ l)) × (s ≡ true)
    parts m n k l s h = go (m == n) refl (k == l) refl s h
      where
        go : (a : Bool) → (m == n) ≡ a → (b : Bool) → (k == l) ≡ b → (s : Bool) → ((a || b) && s) ≡ true →
            ((m ≡ n) ⊎ (k ≡ l)) × (s ≡ true)
        go true f b g s h = (inl (equal m n f), h)
        go false f true g s h = (inr (equal k l g), h)
        go false f false g s h = absurd cc

    these : (r q : Rectangle) → IsIn r all → IsIn q all → r.top ≡ q.place → r.first < q.end → q.first < r.end →
        p ≡ pair_of r.buffer q.buffer → IsMet (map upper_side all) (map lower_side all) p
    these r q i j z a b is = record {
      end = upper_side r;
      begin = lower_side q;
      is_end = into_map upper_side all r i;
      is_begin = into_map lower_side all q j;
      meet = record { line = z; begun = a; not_ended = b };
      is = is;
    }
