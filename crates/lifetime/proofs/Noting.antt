-- Filling the lists of places.
use Rattle.std.proofs.Common.{◌≡◌, ◌≢◌, ℕ, zero, suc, ◌+◌, ◌<◌, ◌≤◌, ◌==◌, ◌⊎◌, inl, inr, true, false, cond, List, [], ◌∷◌, ◌++◌, length, map, filter, drop, slice_index_or, slice_set, refl, sym, ap, ◌∙◌, subst, arith, append-nil}
use Rattle.std.proofs.lemmas.Bool.Decides.{nat_tests}
use Rattle.std.proofs.lemmas.List.{drop_all, get_or-set_same, get_or-set_other, length-map, length-set, drop_more, map-append}
use Rattle.std.proofs.lemmas.List.FromFn.{fill_by_all, get_or-map-range_with_len, length-map-range_with_len, map-range_with_len_more}
use Rattle.std.specs.Global.{Vec}
use Rattle.std.specs.List.{All}
use Rattle.dsa_terms.specs.Claims.{IsIn, Rises}
use Rattle.dsa_terms.specs.Parts.{has, numbers}
use Rattle.dsa_terms.proofs.NumberTests.{same_or_not}
use Rattle.dsa_terms.proofs.Ranges.{below}
use Rattle.dsa_model.specs.Lists.{items_of}
use Rattle.lifetime.specs.Edges.{has_member}
use Rattle.lifetime.specs.Places.{HasMembersBelow, ends_with}
use Rattle.lifetime.specs.SectionList.{Section, no_section}
use Rattle.lifetime.specs.Views.{section_of}
use Rattle.lifetime.specs.declared.section_list.Section.{Section as Declared}
use Rattle.lifetime.proofs.Lists.{filter_more}

-- s put last in the list where b is one of the members
abbrev pub with_last : List ℕ → ℕ → ℕ → List ℕ → List ℕ
with_last members s b places = places ++ cond (has b members) (s ∷ []) []

-- the lists once the members up to place i have been gone over: what is left is as it was, with what is still to come
pub record IsNoting (members : List ℕ) (s i : ℕ) (old lists : List (Vec ℕ)) : Type 0 where
  pub count : length lists ≡ length old
  pub left : (b : ℕ) (d : Vec ℕ) → b < length old →
      with_last members s b (slice_index_or old b d).items ≡ with_last (drop i members) s b
      (slice_index_or lists b d).items

pub rises_drop : (xs : List ℕ) (i : ℕ) → Rises xs → Rises (drop i xs)
rises_drop xs zero r = r
rises_drop [] (suc i) r = tt
rises_drop (x ∷ xs) (suc i) r = rises_drop xs i r.1

not_among : (xs : List ℕ) (x : ℕ) → ((y : ℕ) → IsIn y xs → x < y) → has x xs ≡ false
unfolding has
not_among [] x h = refl
not_among (y ∷ ys) x h = let k = h y (inl refl) in rw (differs y x k) (not_among ys x (λ z i. h z (inr i)))
  where
    differs : (y x : ℕ) → x < y → (y == x) ≡ false
    differs y x h = grind (arith, nat_tests)

pub noted_more : (members : List ℕ) (s i x : ℕ) (old lists more : List (Vec ℕ)) (v w : Vec ℕ) → Rises members →
    IsNoting members s i old lists → i < length members → x ≡ slice_index_or members i 0 →
    x < length old → w ≡ slice_index_or lists x w → v.items ≡ w.items ++ s ∷ [] → more ≡ slice_set lists x v →
    IsNoting members s (i + 1) old more
unfolding has
noted_more members s i x old lists more v w r n lt at xn is pushed e = record {
  count = ap length e ∙ (length-set lists x v ∙ n.count);
  left = λ b d bn. n.left b d bn ∙ (ap (λ ms. with_last ms s b (slice_index_or lists b d).items) dropped ∙ step b d bn
      (same_or_not b x));
}
  where
    dropped : drop i members ≡ x ∷ drop (i + 1) members
    dropped = rw at (drop_more members i 0 lt)

    later : has x (drop (i + 1) members) ≡ false
    later = not_among (drop (i + 1) members) x (rw dropped at (rises_drop members i r)).0

    default : (lists : List (Vec ℕ)) (x : ℕ) (v d : Vec ℕ) → x < length lists →
        slice_index_or lists x v ≡ slice_index_or lists x d
    default [] x v d lt = absurd (omega arith)
    default (w ∷ ws) zero v d lt = refl
    default (w ∷ ws) (suc x) v d lt = default ws x v d (omega arith)

    step : (b : ℕ) (d : Vec ℕ) → b < length old → (b ≡ x) ⊎ (b ≢ x) →
        with_last (x ∷ drop (i + 1) members) s b (slice_index_or lists b d).items ≡ with_last (drop (i + 1) members) s
        b (slice_index_or more b d).items
    step b d bn (inl same) =
        subst (λ (b : ℕ). with_last (x ∷ drop (i + 1) members) s b (slice_index_or lists b d).items ≡ with_last
        (drop (i + 1) members) s b (slice_index_or more b d).items)
        (sym same) (here d)
      where
        equal : (x : ℕ) → (x == x) ≡ true
        equal x = grind (arith, nat_tests)

        here : (d : Vec ℕ) → with_last (x ∷ drop (i + 1) members) s x (slice_index_or lists x d).items ≡ with_last
            (drop (i + 1) members) s x (slice_index_or more x d).items
        here d =
            let xl : x < length lists = (let k = n.count in omega arith) in
            let now : slice_index_or more x d ≡ v = ap (λ vs. slice_index_or vs x d) e ∙ get_or-set_same lists x v d xl
            in
            let was : w.items ≡ (slice_index_or lists x d).items = ap items_of (is ∙ default lists x w d xl) in
            rw (equal x, later, now, pushed, was) (sym (append-nil ((slice_index_or lists x d).items ++ s ∷ [])))
    step b d bn (inr other) = rw (differs x b other, e, get_or-set_other lists x b v d other) refl
      where
        differs : (x b : ℕ) → b ≢ x → (x == b) ≡ false
        differs x b h = grind (arith, nat_tests)

-- all members have been gone over
pub noted_all : (members : List ℕ) (s i : ℕ) (old lists : List (Vec ℕ)) → length members ≤ i →
    IsNoting members s i old lists → map items_of lists ≡ ends_with members s (map items_of old)
unfolding has
noted_all members s i old lists le n = rw (length-map old items_of)
    (fill_by_all (λ b. with_last members s b (slice_index_or (map items_of old) b [])) (map items_of lists)
    (length old) [] (length-map lists items_of ∙ n.count) at)
  where
    item : (vs : List (Vec ℕ)) (b : ℕ) (d : Vec ℕ) → b < length vs →
        slice_index_or (map items_of vs) b [] ≡ (slice_index_or vs b d).items
    item [] b d lt = absurd (omega arith)
    item (w ∷ ws) zero d lt = refl
    item (w ∷ ws) (suc b) d lt = item ws b d (omega arith)

    some : (vs : List (Vec ℕ)) (b : ℕ) → b < length vs → Vec ℕ
    some [] b lt = absurd (omega arith)
    some (w ∷ ws) b lt = w

    at : (b : ℕ) → b < length old → slice_index_or (map items_of lists) b [] ≡ with_last members s b
        (slice_index_or (map items_of old) b [])
    at b lt =
        let d = some old b lt in
        let none : drop i members ≡ [] = drop_all i members le in
        let k : with_last members s b (slice_index_or old b d).items ≡ (slice_index_or lists b d).items =
        n.left b d lt ∙ (ap (λ ms. with_last ms s b (slice_index_or lists b d).items) none ∙ append-nil
        (slice_index_or lists b d).items) in
        item lists b d (let z = n.count in omega arith) ∙ (sym k ∙ ap (with_last members s b) (sym (item old b d lt)))

-- ---- section by section
-- the places below k of the sections that have b
abbrev pub places_below : List Section → ℕ → ℕ → List ℕ
places_below sections k b = filter (λ s. has_member (slice_index_or sections s no_section) b) (numbers k)

pub places_more : (sections : List Section) (k count : ℕ) (members : List ℕ) (lists more : List (List ℕ)) →
    lists ≡ map (places_below sections k) (numbers count) →
    members ≡ (slice_index_or sections k no_section).members → more ≡ ends_with members k lists →
    more ≡ map (places_below sections (k + 1)) (numbers count)
places_more sections k count members lists more e m h = h ∙ rw
    (e, length-map-range_with_len (places_below sections k) 0 count)
    (same_map (numbers count) (λ b i. each b (below count b i)))
  where
    same_map : (bs : List ℕ) → ((b : ℕ) → IsIn b bs → with_last members k b
        (slice_index_or (map (places_below sections k) (numbers count)) b []) ≡ places_below sections (k + 1) b) →
        map (λ b. with_last members k b (slice_index_or (map (places_below sections k) (numbers count)) b [])) bs ≡ map
        (places_below sections (k + 1)) bs
    same_map [] h = refl
    same_map (b ∷ bs) h = let x = h b (inl refl) in let y = same_map bs (λ c i. h c (inr i)) in cc

    each : (b : ℕ) → b < count → with_last members k b
        (slice_index_or (map (places_below sections k) (numbers count)) b []) ≡ places_below sections (k + 1) b
    each b lt =
        ap (with_last members k b) (get_or-map-range_with_len (places_below sections k) 0 count b b [] lt (omega arith))
        ∙ (ap (λ ms. with_last ms k b (places_below sections k b)) m
        ∙ sym (filter_more (λ s. has_member (slice_index_or sections s no_section) b) k))

-- ---- the section at a place
pub section_at : (xs : List Declared) (s : ℕ) (x : Declared) → s < length xs → x ≡ slice_index_or xs s x →
    slice_index_or (map section_of xs) s no_section ≡ section_of x
section_at [] s x lt e = absurd (omega arith)
section_at (y ∷ ys) zero x lt e = ap section_of (sym e)
section_at (y ∷ ys) (suc s) x lt e = section_at ys s x (omega arith) e

-- one of its members is below the count
pub member_at : (count s : ℕ) (xs : List Declared) (x : Declared) (given : List ℕ) (i n : ℕ) →
    All (HasMembersBelow count) (map section_of xs) → s < length xs → x ≡ slice_index_or xs s x →
    given ≡ x.members.items → i < length given → n ≡ count → slice_index_or given i 0 < n
member_at count s xs x given i n h lt e g il c = rw c (below_all i 0 il)
  where
    same : (slice_index_or (map section_of xs) s no_section).members ≡ given
    same = ap (λ (y : Section). y.members) (section_at xs s x lt e) ∙ sym g

    below_all : All (λ b. b < count) given
    below_all = rw same at (h s no_section (let k = length-map xs section_of in omega arith)).in_range

pub ready : (count s : ℕ) (xs : List Declared) (x : Declared) (given : List ℕ) (lists lent : List (Vec ℕ))
    (f : ℕ → List ℕ) → All (HasMembersBelow count) (map section_of xs) → s < length xs →
    x ≡ slice_index_or xs s x → given ≡ x.members.items → lent ≡ lists → map items_of lists ≡ map f (numbers count) →
    Rises given × All (λ b. b < length lent) given
ready count s xs x given lists lent f h lt e g l m = (rw (g, same) (at.rises), rw (g, same, l, long) (at.in_range))
  where
    at : HasMembersBelow count (slice_index_or (map section_of xs) s no_section)
    at = h s no_section (let k = length-map xs section_of in omega arith)

    same : x.members.items ≡ (slice_index_or (map section_of xs) s no_section).members
    same = ap (λ (y : Section). y.members) (sym (section_at xs s x lt e))

    long : length lists ≡ count
    long = sym (length-map lists items_of) ∙ (ap length m ∙ length-map-range_with_len f 0 count)

-- one empty list more
pub empty_more : (n : ℕ) (lists more : List (Vec ℕ)) (v : Vec ℕ) → map items_of lists ≡ map (λ _. []) (numbers n) →
    v.items ≡ [] → more ≡ lists ++ v ∷ [] → map items_of more ≡ map (λ _. []) (numbers (n + 1))
empty_more n lists more v e f g =
    let k = map-append items_of lists (v ∷ []) in
    let none : ℕ → List ℕ = λ _. [] in
    let m = map-range_with_len_more none 0 n n (omega arith) in
    rw (g, k, e, f) (sym m)
