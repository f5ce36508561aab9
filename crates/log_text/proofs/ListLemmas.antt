-- Lists of items that are read one by one: what is read so far, and where no list stands.
use Rattle.std.proofs.Common.{◌≡◌, ◌≢◌, ℕ, true, false, List, [], ◌∷◌, ◌++◌, map, refl, sym, ap, ◌∙◌, append_assoc}
use Rattle.std.proofs.lemmas.List.Concat.{flat_map-append}
use Rattle.std.proofs.lemmas.List.{append-nil}
use Rattle.log_text.specs.Digits.{is_digit, Ends, Stops}
use Rattle.log_text.specs.RawTexts.{spaced}
use Rattle.log_text.specs.Reading.{BeginsDigit, HasNoItem, HasNoList, IsItemRead, IsListEnd}
use Rattle.log_text.proofs.PrefixFree.{IsItemText, ends_stop, head_of, rest_stops, spaced_split, tail_of, tail_text}

-- these items were read, one or more
pub record IsReadSoFar {X : Type 0} (text_of : X → List ℕ) (fit : X → X) (old : List ℕ) (values : List X)
    (mid : List ℕ) : Type 0 where
  pub items : List X
  pub some : items ≢ []
  pub text : old ≡ spaced text_of items ++ mid
  pub stops : Stops mid
  pub values_are : values ≡ map fit items

pub one_read : {X : Type 0} (text_of : X → List ℕ) (fit : X → X) (old : List ℕ) (v : X) (none values : List X)
    (new : List ℕ) → IsItemRead text_of fit old v new → none ≡ [] → values ≡ none ++ v ∷ [] →
    IsReadSoFar text_of fit old values new
one_read text_of fit old v none values new p z q = record {
  items = p.item ∷ [];
  some = λ e. cc;
  text = p.text ∙ ap (λ u. u ++ new) (sym (append-nil (text_of p.item)));
  stops = p.stops;
  values_are = q ∙ (ap (λ u. u ++ v ∷ []) z ∙ ap (λ u. u ∷ []) p.value_is);
}

spaced_more : {X : Type 0} (text_of : X → List ℕ) (xs : List X) (x : X) (r : List ℕ) → xs ≢ [] →
    spaced text_of (xs ++ x ∷ []) ++ r ≡ spaced text_of xs ++ (32 ∷ (text_of x ++ r))
spaced_more text_of [] x r h = absurd (h refl)
spaced_more text_of (y ∷ ys) x r h =
    ap (λ u. (text_of y ++ u) ++ r) (flat_map-append (λ z. 32 ∷ text_of z) ys (x ∷ []))
    ∙ regroup (text_of y) (tail_text text_of ys) (text_of x) r
  where
    regroup : (a b c r : List ℕ) → (a ++ (b ++ ((32 ∷ c) ++ []))) ++ r ≡ (a ++ b) ++ (32 ∷ (c ++ r))
    regroup a b c r = ap (λ u. (a ++ (b ++ u)) ++ r) (append-nil (32 ∷ c)) ∙ simp append_assoc

map_more : {X : Type 0} (f : X → X) (xs : List X) (x : X) → map f (xs ++ x ∷ []) ≡ map f xs ++ f x ∷ []
map_more f [] x = refl
map_more f (y ∷ ys) x = ap (λ u. f y ∷ u) (map_more f ys x)

pub more_read : {X : Type 0} (text_of : X → List ℕ) (fit : X → X) (old : List ℕ) (values : List X) (mid y : List ℕ)
    (v : X) (more : List X) (new : List ℕ) →
    IsReadSoFar text_of fit old values mid → mid ≡ 32 ∷ y → IsItemRead text_of fit y v new →
    more ≡ values ++ v ∷ [] → IsReadSoFar text_of fit old more new
more_read text_of fit old values mid y v more new p q s e = record {
  items = p.items ++ s.item ∷ [];
  some = not_nil p.items s.item;
  text = p.text ∙ (ap (λ u. spaced text_of p.items ++ u) (q ∙ ap (λ u. 32 ∷ u) s.text)
      ∙ sym (spaced_more text_of p.items s.item new p.some));
  stops = s.stops;
  values_are = e ∙ (joined p.values_are s.value_is ∙ sym (map_more fit p.items s.item));
}
  where
    not_nil : {X : Type 0} (xs : List X) (x : X) → xs ++ x ∷ [] ≡ [] → ⊥
    not_nil [] x e = cc
    not_nil (y ∷ ys) x e = cc

    joined : {X : Type 0} {xs ys : List X} {x y : X} → xs ≡ ys → x ≡ y → xs ++ x ∷ [] ≡ ys ++ y ∷ []
    joined p q = cc

-- ---- where no list stands
pub no_first : {X : Type 0} (text_of : X → List ℕ) (end old : List ℕ) → IsListEnd end → HasNoItem text_of old →
    HasNoList text_of end old
no_first {X = X} text_of end old l h = λ xs r n e. go xs r n e
  where
    go : (xs : List X) (r : List ℕ) → xs ≢ [] → old ≡ spaced text_of xs ++ (end ++ r) → ⊥
    go [] r n e = n refl
    go (x ∷ xs) r n e = h x (tail_text text_of xs ++ (end ++ r))
        (rest_stops text_of xs (end ++ r) (ends_stop (end ++ r) (l r)))
        (e ∙ append_assoc (text_of x) (tail_text text_of xs) (end ++ r))

digit_ends_not : (y r : List ℕ) → BeginsDigit y → Ends r → r ≡ 32 ∷ y → ⊥
digit_ends_not [] r d h e = d
digit_ends_not (c ∷ cs) [] d h e = cc
digit_ends_not (c ∷ cs) (x ∷ []) d h e = cc
digit_ends_not (c ∷ cs) (x ∷ z ∷ zs) d h e =
    let k : x ≡ 32 = head_of x 32 (z ∷ zs) (c ∷ cs) e in
    let m : z ≡ c = head_of z c zs cs (tail_of x 32 (z ∷ zs) (c ∷ cs) e) in
    let n : is_digit z ≡ false = h.1 k in
    let o : is_digit z ≡ is_digit c = ap is_digit m in cc

no_more_in : {X : Type 0} (text_of : X → List ℕ) → IsItemText text_of → (xs ys : List X) (y r : List ℕ) →
    BeginsDigit y → HasNoItem text_of y → Ends r →
    tail_text text_of xs ++ (32 ∷ y) ≡ tail_text text_of ys ++ r → ⊥
no_more_in text_of i [] [] y r d h n e = digit_ends_not y r d n (sym e)
no_more_in text_of i [] (z ∷ zs) y r d h n e = h z (tail_text text_of zs ++ r)
    (rest_stops text_of zs r (ends_stop r n)) (tail_of 32 32 _ _ e ∙ append_assoc (text_of z) (tail_text text_of zs) r)
no_more_in text_of i (x ∷ xs) [] y r d h n e = let t = i.begins x in
    not_after t.0 t.1 t.2 t.3 n (sym e ∙ ap (λ u. 32 ∷ u) (append_assoc (text_of x) (tail_text text_of xs) (32 ∷ y)))
  where
    not_after : (c : ℕ) (cs : List ℕ) → text_of x ≡ c ∷ cs → is_digit c ≡ true → Ends r →
        r ≡ 32 ∷ (text_of x ++ (tail_text text_of xs ++ (32 ∷ y))) → ⊥
    not_after c cs q d n e = digit_ends_not ((c ∷ cs) ++ (tail_text text_of xs ++ (32 ∷ y))) r d n
        (e ∙ ap (λ u. 32 ∷ (u ++ (tail_text text_of xs ++ (32 ∷ y)))) q)
no_more_in text_of i (x ∷ xs) (z ∷ zs) y r d h n e =
    let g = sym (append_assoc (text_of x) (tail_text text_of xs) (32 ∷ y))
    ∙ (tail_of 32 32 _ _ e ∙ append_assoc (text_of z) (tail_text text_of zs) r) in
    let one = i.splits x z _ _ (rest_stops text_of xs (32 ∷ y) refl) (rest_stops text_of zs r (ends_stop r n)) g in
    no_more_in text_of i xs zs y r d h n one.1

pub no_more : {X : Type 0} (text_of : X → List ℕ) (fit : X → X) → IsItemText text_of →
    (end old : List ℕ) (values : List X) (mid y : List ℕ) → IsListEnd end → IsReadSoFar text_of fit old values mid →
    mid ≡ 32 ∷ y → BeginsDigit y → HasNoItem text_of y → HasNoList text_of end old
no_more {X = X} text_of fit i end old values mid y l p q d h =
    λ xs r n e. go p.items p.some xs n r (sym (p.text ∙ ap (λ u. spaced text_of p.items ++ u) q) ∙ e)
  where
    go : (items : List X) → items ≢ [] → (xs : List X) → xs ≢ [] → (r : List ℕ) →
        spaced text_of items ++ (32 ∷ y) ≡ spaced text_of xs ++ (end ++ r) → ⊥
    go [] m xs n r e = m refl
    go (x ∷ items) m [] n r e = n refl
    go (x ∷ items) m (z ∷ zs) n r e =
        let g = sym (append_assoc (text_of x) (tail_text text_of items) (32 ∷ y))
        ∙ (e ∙ append_assoc (text_of z) (tail_text text_of zs) (end ++ r)) in
        let one = i.splits x z _ _ (rest_stops text_of items (32 ∷ y) refl)
        (rest_stops text_of zs (end ++ r) (ends_stop (end ++ r) (l r))) g in
        no_more_in text_of i items zs y (end ++ r) d h (l r) one.1

pub no_end : {X : Type 0} (text_of : X → List ℕ) (fit : X → X) → IsItemText text_of →
    (end old : List ℕ) (values : List X) (mid : List ℕ) → IsListEnd end → IsReadSoFar text_of fit old values mid →
    Ends mid → ((r : List ℕ) → mid ≡ end ++ r → ⊥) → HasNoList text_of end old
no_end text_of fit i end old values mid l p n h = λ xs r m e. h r
    (spaced_split text_of i p.items xs mid (end ++ r) n (l r) (sym p.text ∙ e)).1
