-- Colours that touching buffers have, and those that are left.
use Rattle.std.proofs.Common.{◌≡◌, ◌≢◌, ℕ, zero, suc, ◌+◌, ◌%◌, ◌&&◌, ◌<◌, inl, inr, Bool, true, false, not, cond, List, [], ◌∷◌, ◌++◌, length, filter, get_or, refl, ap, sym, ◌∙◌, arith, length-append}
use Rattle.std.proofs.Math.Seq.{get_or-append_seam}
use Rattle.std.proofs.lemmas.List.{get_or_append_left}
use Rattle.dsa_terms.specs.Buffers.{Instance}
use Rattle.dsa_terms.specs.Claims.{IsIn}
use Rattle.dsa_terms.specs.Parts.{numbers}
use Rattle.dsa_terms.proofs.Lists.{any_from, any_gives, from_filter, into_filter, true_or_false}
use Rattle.dsa_terms.proofs.NumberTests.{below_or_last, equal, same}
use Rattle.dsa_terms.proofs.Ranges.{among, below}
use Rattle.lifetime.proofs.Lists.{filter_more}
use Rattle.layout_picture.specs.Colours.{colours_below, colours_of, is_taken, next_colour, takes, touch}
use Rattle.layout_picture.specs.Laws.{IsLeft}

-- the first that passes
record StartsWith (xs : List ℕ) (x : ℕ) : Type 0 where
  pub rest : List ℕ
  pub is : xs ≡ x ∷ rest

starts : (p : ℕ → Bool) (n m : ℕ) → n < m → filter p (numbers n) ≡ [] → p n ≡ true → StartsWith (filter p (numbers m)) n
starts p n zero lt h t = absurd (omega arith)
starts p n (suc m) lt h t = elim (below_or_last n m (omega arith)) [
  | inl less ↦ (let r = starts p n m less h t in record {
    rest = r.rest ++ cond (p m) (m ∷ []) [];
    is = more ∙ ap (λ (xs : List ℕ). xs ++ cond (p m) (m ∷ []) []) r.is;
  })
  | inr e ↦ record {
    rest = [];
    is = more ∙ ap (λ (k : ℕ). filter p (numbers k) ++ cond (p k) (k ∷ []) []) (sym e)
        ∙ ap (λ (xs : List ℕ). xs ++ cond (p n) (n ∷ []) []) h ∙ ap (λ (b : Bool). cond b (n ∷ []) []) t;
  }
]
  where
    more : filter p (numbers (suc m)) ≡ filter p (numbers m) ++ cond (p m) (m ∷ []) []
    more = ap (λ (k : ℕ). filter p (numbers k)) (let e : suc m ≡ m + 1 = omega arith in e) ∙ filter_more p m

pub first_is : (p : ℕ → Bool) (n m d : ℕ) → n < m → filter p (numbers n) ≡ [] → p n ≡ true →
    n ≡ get_or (filter p (numbers m)) 0 d
first_is p n m d lt h t = let r = starts p n m lt h t in sym (ap (λ (xs : List ℕ). get_or xs 0 d) r.is)

pub first_not : (p : ℕ → Bool) (n m d : ℕ) → n ≡ m → filter p (numbers n) ≡ [] → d ≡ get_or (filter p (numbers m)) 0 d
first_not p n m d e h = sym (ap (λ (k : ℕ). get_or (filter p (numbers k)) 0 d) (sym e)
    ∙ ap (λ (xs : List ℕ). get_or xs 0 d) h)

pub still_none : (p : ℕ → Bool) (n : ℕ) → filter p (numbers n) ≡ [] → p n ≡ false → filter p (numbers (n + 1)) ≡ []
still_none p n h e = filter_more p n ∙ ap (λ (xs : List ℕ). xs ++ cond (p n) (n ∷ []) []) h
    ∙ ap (λ (b : Bool). cond b (n ∷ []) []) e

-- where one passes, the first does
first_in : (xs : List ℕ) (k d : ℕ) → IsIn k xs → IsIn (get_or xs 0 d) xs
first_in [] k d i = absurd i
first_in (x ∷ xs) k d i = inl refl

-- ---- the colours one by one
pub length-colours_below : (I : Instance) (offsets : List ℕ) (n : ℕ) → length (colours_below I offsets n) ≡ n
unfolding colours_below
length-colours_below I offsets zero = refl
length-colours_below I offsets (suc n) =
    let k = length-append (colours_below I offsets n) (next_colour I offsets (colours_below I offsets n) ∷ []) in
    let h = length-colours_below I offsets n in omega arith

pub no_colours : (I : Instance) (offsets xs : List ℕ) → xs ≡ [] → xs ≡ colours_below I offsets 0
unfolding colours_below
no_colours I offsets xs h = h

pub fewer : (I : Instance) (offsets before lent : List ℕ) (n m : ℕ) → before ≡ colours_below I offsets n →
    lent ≡ before → n < m → length lent < m
fewer I offsets before lent n m h l lt =
    let e = ap (λ (xs : List ℕ). length xs) (l ∙ h) in let k = length-colours_below I offsets n in omega arith

pub so_many : (I : Instance) (offsets before lent : List ℕ) (n : ℕ) → before ≡ colours_below I offsets n →
    lent ≡ before → length lent ≡ n
so_many I offsets before lent n h l = ap (λ (xs : List ℕ). length xs) (l ∙ h) ∙ length-colours_below I offsets n

pub all_coloured : (I : Instance) (offsets before : List ℕ) (n : ℕ) → before ≡ colours_below I offsets n →
    n ≡ length I → before ≡ colours_of I offsets
unfolding colours_of
all_coloured I offsets before n h e = h ∙ ap (colours_below I offsets) e

pub as_many_colours : (I : Instance) (offsets before : List ℕ) (n : ℕ) → before ≡ colours_below I offsets n →
    n ≡ length I → length before ≡ length I
as_many_colours I offsets before n h e =
    ap (λ (xs : List ℕ). length xs) h ∙ length-colours_below I offsets n ∙ e

pub colours_more : (I : Instance) (offsets : List ℕ) (n : ℕ) (before lent more : List ℕ) →
    before ≡ colours_below I offsets n → lent ≡ before → more ≡ before ++ next_colour I offsets lent ∷ [] →
    more ≡ colours_below I offsets (n + 1)
unfolding colours_below
colours_more I offsets n before lent more h l m = let e : n + 1 ≡ suc n = omega arith in rw (m, l, h, e) refl

-- the colour of buffer b, whatever buffers have a colour besides
colour_in : (I : Instance) (offsets : List ℕ) (n b : ℕ) → b < n →
    get_or (colours_below I offsets n) b 0 ≡ next_colour I offsets (colours_below I offsets b)
unfolding colours_below
colour_in I offsets zero b lt = absurd (omega arith)
colour_in I offsets (suc n) b lt = elim (below_or_last b n (omega arith)) [
  | inl less ↦ get_or_append_left (colours_below I offsets n) _ 0 b
      (let k = length-colours_below I offsets n in omega arith) ∙ colour_in I offsets n b less
  | inr e ↦ ap (λ (k : ℕ). get_or (colours_below I offsets (suc n)) k 0) (e ∙ sym (length-colours_below I offsets n))
      ∙ get_or-append_seam (colours_below I offsets n) (next_colour I offsets (colours_below I offsets n)) [] 0
      ∙ ap (λ (k : ℕ). next_colour I offsets (colours_below I offsets k)) (sym e)
]

-- the colour of the next is not taken, where one is not
not_taken : (I : Instance) (offsets colours : List ℕ) (k : ℕ) → k < 8 → is_taken I offsets colours k ≡ false →
    is_taken I offsets colours (next_colour I offsets colours) ≡ false
unfolding next_colour
not_taken I offsets colours k lt h = opposite (is_taken I offsets colours _)
    (from_filter (λ k. not (is_taken I offsets colours k)) (numbers 8) _
    (first_in (filter (λ k. not (is_taken I offsets colours k)) (numbers 8)) k (length colours % 8)
    (into_filter (λ k. not (is_taken I offsets colours k)) (numbers 8) k (among 8 k lt) (ap not h)))).1
  where
    opposite : (b : Bool) → not b ≡ true → b ≡ false
    opposite false e = refl
    opposite true e = absurd cc

-- ---- the law
taken : (I : Instance) (offsets : List ℕ) (b c k : ℕ) → b < c → touch I offsets b c ≡ true →
    get_or (colours_below I offsets c) b 0 ≡ k → is_taken I offsets (colours_below I offsets c) k ≡ true
unfolding is_taken
taken I offsets b c k lt t e = any_from
    (takes I offsets (colours_below I offsets c) k)
    (numbers (length (colours_below I offsets c))) b
    (among (length (colours_below I offsets c)) b (let n = length-colours_below I offsets c in omega arith))
    (both _ _ (same _ k e) (ap (touch I offsets b) (length-colours_below I offsets c) ∙ t))
  where
    both : (p q : Bool) → p ≡ true → q ≡ true → (p && q) ≡ true
    both true true e f = refl
    both false q e f = absurd cc
    both true false e f = absurd cc

left_free : (I : Instance) (offsets : List ℕ) (c k : ℕ) → c < length I → IsLeft I offsets c k →
    is_taken I offsets (colours_below I offsets c) k ≡ false
unfolding is_taken colours_of
left_free I offsets c k lt l = elim (true_or_false (is_taken I offsets (colours_below I offsets c) k)) [
  | inr f ↦ f
  | inl t ↦ absurd (let r = any_gives
      (takes I offsets (colours_below I offsets c) k)
      (numbers (length (colours_below I offsets c))) t in
      let n = length-colours_below I offsets c in
      let less : r.0 < c = let z = below (length (colours_below I offsets c)) r.0 r.1 in omega arith in
      let h = parts _ _ r.2 in
      l.not_taken r.0 less (ap (touch I offsets r.0) (sym n) ∙ h.1)
      (colour_in I offsets (length I) r.0 (omega arith) ∙ sym (colour_in I offsets c r.0 less)
      ∙ equal _ k h.0))
]
  where
    parts : (p q : Bool) → (p && q) ≡ true → (p ≡ true) × (q ≡ true)
    parts true q e = (refl, e)
    parts false q e = absurd cc

pub differ_in_colour : (I : Instance) (offsets : List ℕ) (b c k : ℕ) → b < c → c < length I → IsLeft I offsets c k →
    touch I offsets b c ≡ true → get_or (colours_of I offsets) b 0 ≢ get_or (colours_of I offsets) c 0
unfolding colours_of
differ_in_colour I offsets b c k lt ct l t = λ e.
    let own = colour_in I offsets (length I) c ct in
    let free = not_taken I offsets (colours_below I offsets c) k l.in_range (left_free I offsets c k ct l) in
    let z = taken I offsets b c (next_colour I offsets (colours_below I offsets c)) lt t
    (colour_in I offsets c b lt ∙ sym (colour_in I offsets (length I) b (omega arith)) ∙ e ∙ own) in
    let w = sym free ∙ z in cc
