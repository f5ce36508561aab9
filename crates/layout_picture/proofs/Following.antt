-- One buffer follows another over some place where a right side meets a left one.
use Rattle.std.proofs.Common.{◌≡◌, ◌≢◌, ℕ, ◌<◌, ◌⊎◌, inl, inr, Bool, true, false, ◌==◌, ◌&&◌, ◌||◌, nat_lt, List, map, length, get_or, refl, ap, sym, subst, ◌∙◌, arith}
use Rattle.std.specs.List.{All}
use Rattle.dsa_terms.specs.Buffers.{Instance, IsInstance, buffer}
use Rattle.dsa_terms.specs.Parts.{numbers}
use Rattle.dsa_terms.proofs.Lists.{from_map, into_map}
use Rattle.dsa_terms.proofs.NumberTests.{equal, is_below, less, same}
use Rattle.dsa_terms.proofs.Places.{all_from_in}
use Rattle.dsa_terms.proofs.Moments.{and_true, lasts, sound}
use Rattle.dsa_terms.proofs.Ranges.{among, below}
use Rattle.layout_picture.specs.Colours.{end_of, follow, lie_upon, overlap, touch}
use Rattle.layout_picture.specs.Sides.{IsMet, IsSide, IsTouching, Meet, left_side, pair_of, right_side}
use Rattle.layout_picture.specs.declared.side.Side.{Side}
use Rattle.layout_picture.specs.declared.touching.Pair.{Pair}
use Rattle.layout_picture.proofs.Stacking.{pair_is, pair_is_back, pair_touches}

-- ---- buffers have sides
pub some_places : (I : Instance) (offsets : List ℕ) (side : ℕ → Side) (sides : List Side) → IsInstance I →
    sides ≡ map side (numbers (length I)) →
    ((b : ℕ) → get_or offsets b 0 < end_of I offsets b → IsSide (side b)) → All IsSide sides
some_places I offsets side sides good f h = rw f (all_from_in IsSide (map side (numbers (length I))) (λ s i.
    let m = from_map side (numbers (length I)) s i in
    subst IsSide (sym m.2) (h m.0 (let k = (sound I m.0 good).0 in omega arith))))

-- ---- what meets, follows
touch_over : (I : Instance) (offsets : List ℕ) (b c : ℕ) →
    (((buffer I b).upper ≡ (buffer I c).lower) ⊎ ((buffer I c).upper ≡ (buffer I b).lower)) →
    get_or offsets b 0 < end_of I offsets c → get_or offsets c 0 < end_of I offsets b → touch I offsets b c ≡ true
unfolding touch
touch_over I offsets b c e x y = last (lie_upon I offsets b c) (follow I b c && overlap I offsets b c)
    (both (buffer I b).upper (buffer I c).lower
    (buffer I c).upper (buffer I b).lower _ _ e (is_below _ _ x) (is_below _ _ y))
  where
    either : (a : Bool) → (a || true) ≡ true
    either true = refl
    either false = refl

    both : (m n k l : ℕ) (s t : Bool) → (m ≡ n) ⊎ (k ≡ l) → s ≡ true → t ≡ true →
        (((m == n) || (k == l)) && (s && t)) ≡ true
    both m n k l s t (inl e) f g = rw (same m n e, f, g) refl
    both m n k l s t (inr e) f g = rw (same k l e, f, g, either (m == n)) refl

    last : (a x : Bool) → x ≡ true → (a || x) ≡ true
    last true x e = refl
    last false x e = e

pub following_touch : (I : Instance) (offsets : List ℕ) (p : Pair) → IsInstance I →
    IsMet (map (right_side I offsets) (numbers (length I))) (map (left_side I offsets) (numbers (length I))) p →
    IsTouching I offsets p
following_touch I offsets p good m =
    let u = from_map (right_side I offsets) (numbers (length I)) m.end m.is_end in
    let l = from_map (left_side I offsets) (numbers (length I)) m.begin m.is_begin in
    subst (IsTouching I offsets)
    (sym (m.is ∙ ap (λ (s : Side). pair_of s.buffer m.begin.buffer) u.2 ∙ ap (λ (s : Side). pair_of u.0 s.buffer) l.2))
    (these u.0 l.0 (below (length I) u.0 u.1) (below (length I) l.0 l.1)
    (subst (λ (s : Side). Meet s (left_side I offsets l.0)) u.2 (subst (λ (s : Side). Meet m.end s) l.2 m.meet)))
  where
    these : (b c : ℕ) → b < length I → c < length I → Meet (right_side I offsets b) (left_side I offsets c) →
        IsTouching I offsets (pair_of b c)
    these b c lb lc meet =
        pair_touches I offsets b c other lb lc
        (touch_over I offsets b c (inl meet.line) meet.begun meet.not_ended)
        (touch_over I offsets c b (inr meet.line) meet.not_ended meet.begun)
      where
        other : b ≢ c
        other = λ w. let k = ap (λ (d : ℕ). (buffer I d).lower) w in let n = lasts I b good lb in
            let e = meet.line in omega arith

-- ---- what follows, meets
pub touch_following : (I : Instance) (offsets : List ℕ) (p : Pair) → p.earlier < p.later → p.later < length I →
    (follow I p.earlier p.later && overlap I offsets p.earlier p.later) ≡ true →
    IsMet (map (right_side I offsets) (numbers (length I))) (map (left_side I offsets) (numbers (length I))) p
touch_following I offsets p lt lc h =
    let q = parts (buffer I p.earlier).upper (buffer I p.later).lower (buffer I p.later).upper
    (buffer I p.earlier).lower
    (get_or offsets p.earlier 0) (end_of I offsets p.later) (get_or offsets p.later 0) (end_of I offsets p.earlier) h in
    elim q.0 [
      | inl e ↦ these p.earlier p.later (omega arith) lc (record { line = e; begun = q.1; not_ended = q.2 })
          (pair_is p p.earlier p.later lt refl refl)
      | inr e ↦ these p.later p.earlier lc (omega arith) (record { line = e; begun = q.2; not_ended = q.1 })
          (pair_is_back p p.later p.earlier lt refl refl)
    ]
  where
    parts : (m n k l a b c d : ℕ) → (((m == n) || (k == l)) && (nat_lt a b && nat_lt c d)) ≡ true →
        ((m ≡ n) ⊎ (k ≡ l)) × (a < b) × (c < d)
    parts m n k l a b c d h =
        let q = and_true ((m == n) || (k == l)) (nat_lt a b && nat_lt c d) h in
        let r = and_true (nat_lt a b) (nat_lt c d) q.1 in
        (one (m == n) refl q.0, less a b r.0, less c d r.1)
      where
        one : (w : Bool) → (m == n) ≡ w → (w || (k == l)) ≡ true → (m ≡ n) ⊎ (k ≡ l)
        one true f e = inl (equal m n f)
        one false f e = inr (equal k l e)

    these : (b c : ℕ) → b < length I → c < length I → Meet (right_side I offsets b) (left_side I offsets c) →
        p ≡ pair_of b c →
        IsMet (map (right_side I offsets) (numbers (length I))) (map (left_side I offsets) (numbers (length I))) p
    these b c lb lc meet is = record {
      end = right_side I offsets b;
      begin = left_side I offsets c;
      is_end = into_map (right_side I offsets) (numbers (length I)) b (among (length I) b lb);
      is_begin = into_map (left_side I offsets) (numbers (length I)) c (among (length I) c lc);
      meet = meet;
      is = is;
    }
