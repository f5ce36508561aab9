-- Writes at chosen places, one more at a time, and undone.
use Rattle.std.proofs.Common.{◌≡◌, ◌≢◌, ◌⊎◌, inl, inr, ◌+◌, ◌<◌, ◌≤◌, ℕ, zero, suc, List, [], ◌∷◌, ◌++◌, length, take, slice_index, slice_set, refl, ap, sym, ◌∙◌, max, arith}
use Rattle.std.proofs.lemmas.List.{take_more, map-append}
use Rattle.dsa_terms.specs.Logs.{greatest}
use Rattle.std.proofs.lemmas.List.{length-set, get_or-set_other, get_or-set_same}
use Rattle.std.proofs.lemmas.Grind.{same_number_lists}
use Rattle.dsa_terms.specs.Claims.{IsIn, Rises}
use Rattle.dsa_terms.proofs.Lists.{from_map, greatest_under}
use Rattle.dsa_search_laws.proofs.Logs.{in_greatest}
use Rattle.lifetime.proofs.Lists.{in_or_not}
use Rattle.skyline.specs.Places.{set_each, at_places}

greatest-append : (xs : List ℕ) (y : ℕ) → greatest (xs ++ y ∷ []) ≡ max (greatest xs) y
greatest-append [] y = omega arith
greatest-append (x ∷ xs) y = let k = greatest-append xs y in omega arith

pub set_each-append : (f : ℕ → ℕ) (ss : List ℕ) (s : ℕ) (xs : List ℕ) → set_each f (ss ++ s ∷ []) xs ≡ slice_set
    (set_each f ss xs) s (f s)
set_each-append f [] s xs = refl
set_each-append f (t ∷ ss) s xs = set_each-append f ss s (slice_set xs t (f t))

pub set_each-more : (f : ℕ → ℕ) (ss : List ℕ) (i : ℕ) (xs : List ℕ) → i < length ss →
    set_each f (take (i + 1) ss) xs ≡ slice_set (set_each f (take i ss) xs) (slice_index ss i) (f (slice_index ss i))
set_each-more f ss i xs lt = ap (λ t. set_each f t xs) (take_more ss i 0 lt)
    ∙ set_each-append f (take i ss) (slice_index ss i) xs

pub at_places-more : (xs places : List ℕ) (i : ℕ) → i < length places →
    at_places xs (take (i + 1) places) ≡ at_places xs (take i places) ++ slice_index xs (slice_index places i) ∷ []
at_places-more xs places i lt = ap (at_places xs) (take_more places i 0 lt)
    ∙ map-append (slice_index xs) (take i places) (slice_index places i ∷ [])

pub greatest-more : (xs places : List ℕ) (i : ℕ) → i < length places → greatest (at_places xs (take (i + 1) places))
    ≡ max (greatest (at_places xs (take i places))) (slice_index xs (slice_index places i))
greatest-more xs places i lt = ap greatest (at_places-more xs places i lt)
    ∙ greatest-append (at_places xs (take i places)) (slice_index xs (slice_index places i))

pub at_places-at : (xs places : List ℕ) (i : ℕ) → i < length places → slice_index (at_places xs places) i
    ≡ slice_index xs (slice_index places i)
at_places-at xs [] i lt = absurd (omega arith)
at_places-at xs (s ∷ ss) zero lt = refl
at_places-at xs (s ∷ ss) (suc i) lt = at_places-at xs ss i (omega arith)

-- one more write of a kept number
pub restored-more : (kept saved ss hs before : List ℕ) (i : ℕ) → i < length ss → saved ≡ at_places kept ss →
    hs ≡ set_each (slice_index kept) (take i ss) before →
    slice_set hs (slice_index ss i) (slice_index saved i) ≡ set_each (slice_index kept) (take (i + 1) ss) before
restored-more kept saved ss hs before i lt e h =
    ap (λ x. slice_set x (slice_index ss i) (slice_index saved i)) h
    ∙ ap (slice_set (set_each (slice_index kept) (take i ss) before) (slice_index ss i)) (ap (λ x. slice_index x i) e
    ∙ at_places-at kept ss i lt)
    ∙ sym (set_each-more (slice_index kept) ss i before lt)

pub raised-more : (top : ℕ) (ss hs before : List ℕ) (i : ℕ) → i < length ss →
    hs ≡ set_each (λ _. top) (take i ss) before →
    slice_set hs (slice_index ss i) top ≡ set_each (λ _. top) (take (i + 1) ss) before
raised-more top ss hs before i lt h =
    ap (λ x. slice_set x (slice_index ss i) top) h ∙ sym (set_each-more (λ _. top) ss i before lt)

-- ---- a list after writes at some places
pub length-set_each : (f : ℕ → ℕ) (ss xs : List ℕ) → length (set_each f ss xs) ≡ length xs
length-set_each f [] xs = refl
length-set_each f (s ∷ ss) xs = length-set_each f ss (slice_set xs s (f s)) ∙ length-set xs s (f s)

-- other places keep what they have
pub set_each-out : (f : ℕ → ℕ) (ss xs : List ℕ) (s : ℕ) → (IsIn s ss → ⊥) →
    slice_index (set_each f ss xs) s ≡ slice_index xs s
set_each-out f [] xs s out = refl
set_each-out f (t ∷ ss) xs s out =
    set_each-out f ss (slice_set xs t (f t)) s (λ i. out (inr i))
    ∙ (let ne : s ≢ t = λ e. out (inl e) in rw get_or-set_other refl)

-- these places have what was written
pub set_each-in : (f : ℕ → ℕ) (ss xs : List ℕ) (s : ℕ) → IsIn s ss → s < length xs →
    slice_index (set_each f ss xs) s ≡ f s
set_each-in f [] xs s i lt = absurd i
set_each-in f (t ∷ ss) xs s i lt = go (set_each-in f ss (slice_set xs t (f t)) s) (in_or_not s ss) i
  where
    go : (IsIn s ss → s < length (slice_set xs t (f t)) → slice_index (set_each f ss (slice_set xs t (f t))) s ≡ f s) →
        IsIn s ss ⊎ (IsIn s ss → ⊥) → IsIn s (t ∷ ss) → slice_index (set_each f ss (slice_set xs t (f t))) s ≡ f s
    go ih (inl j) i = ih j (omega (arith, length-set xs t (f t)))
    go ih (inr out) (inr j) = absurd (out j)
    go ih (inr out) (inl e) =
        set_each-out f ss (slice_set xs t (f t)) s out
        ∙ ap (λ x. slice_index (slice_set xs x (f x)) s) (sym e)
        ∙ get_or-set_same xs s (f s) 0 lt

-- writing back what was there
pub set_each-back : (xs ys ss : List ℕ) → length ys ≡ length xs →
    ((s : ℕ) → (IsIn s ss → ⊥) → slice_index ys s ≡ slice_index xs s) →
    set_each (slice_index xs) ss ys ≡ xs
set_each-back xs ys ss len same = same_number_lists (set_each (slice_index xs) ss ys) xs
    (length-set_each (slice_index xs) ss ys ∙ len) each
  where
    each : (k : ℕ) → k < length (set_each (slice_index xs) ss ys) → slice_index (set_each (slice_index xs) ss ys) k
        ≡ slice_index xs k
    each k lt = go (in_or_not k ss)
      where
        go : IsIn k ss ⊎ (IsIn k ss → ⊥) → slice_index (set_each (slice_index xs) ss ys) k ≡ slice_index xs k
        go (inl i) = set_each-in (slice_index xs) ss ys k i (omega (arith, length-set_each (slice_index xs) ss ys))
        go (inr out) = set_each-out (slice_index xs) ss ys k out ∙ same k out

-- what was written at places is undone by what they had
pub undone : (f : ℕ → ℕ) (xs ss : List ℕ) → set_each (slice_index xs) ss (set_each f ss xs) ≡ xs
undone f xs ss = set_each-back xs (set_each f ss xs) ss (length-set_each f ss xs) (λ s out. set_each-out f ss xs s out)

-- ---- the greatest at some places after one number was written at others
pub at_places-under : (xs ss : List ℕ) (C : ℕ) → ((s : ℕ) → IsIn s ss → slice_index xs s ≤ C) →
    greatest (at_places xs ss) ≤ C
at_places-under xs ss C h = greatest_under (at_places xs ss) C (λ x i. let r = from_map (slice_index xs) ss x i in
    let k = h r.0 r.1 in let e = r.2 in omega arith)

pub under_greatest : (xs ss : List ℕ) (s : ℕ) → IsIn s ss → slice_index xs s ≤ greatest (at_places xs ss)
under_greatest xs ss s i = in_greatest (slice_index xs) ss s i

-- places that meet those that were written
pub greatest_met : (t : ℕ) (ps xs ss : List ℕ) (m : ℕ) → IsIn m ps → IsIn m ss →
    ((s : ℕ) → IsIn s ps → s < length xs) → ((s : ℕ) → IsIn s ps → slice_index xs s ≤ t) →
    greatest (at_places (set_each (λ _. t) ps xs) ss) ≡ max t (greatest (at_places xs ss))
greatest_met t ps xs ss m i j lt le = both (greatest (at_places (set_each (λ _. t) ps xs) ss)) t
    (greatest (at_places xs ss)) upper lower_t lower_g
  where
    both : (x t g : ℕ) → x ≤ max t g → t ≤ x → g ≤ x → x ≡ max t g
    both x t g h k l = omega arith

    upper : greatest (at_places (set_each (λ _. t) ps xs) ss) ≤ max t (greatest (at_places xs ss))
    upper = at_places-under (set_each (λ _. t) ps xs) ss (max t (greatest (at_places xs ss))) each
      where
        each : (s : ℕ) → IsIn s ss → slice_index (set_each (λ _. t) ps xs) s ≤ max t (greatest (at_places xs ss))
        each s q = go (in_or_not s ps)
          where
            go : IsIn s ps ⊎ (IsIn s ps → ⊥) → slice_index (set_each (λ _. t) ps xs) s ≤ max t
                (greatest (at_places xs ss))
            go (inl p) = let e = set_each-in (λ _. t) ps xs s p (lt s p) in omega arith
            go (inr out) = let e = set_each-out (λ _. t) ps xs s out in let k = under_greatest xs ss s q in omega arith

    lower_t : t ≤ greatest (at_places (set_each (λ _. t) ps xs) ss)
    lower_t = let e = set_each-in (λ _. t) ps xs m i (lt m i) in let k = under_greatest
        (set_each (λ _. t) ps xs) ss m j in omega arith

    lower_g : greatest (at_places xs ss) ≤ greatest (at_places (set_each (λ _. t) ps xs) ss)
    lower_g = at_places-under xs ss (greatest (at_places (set_each (λ _. t) ps xs) ss)) each
      where
        each : (s : ℕ) → IsIn s ss → slice_index xs s ≤ greatest (at_places (set_each (λ _. t) ps xs) ss)
        each s q = go (in_or_not s ps)
          where
            go : IsIn s ps ⊎ (IsIn s ps → ⊥) → slice_index xs s ≤ greatest (at_places (set_each (λ _. t) ps xs) ss)
            go (inl p) = let e = set_each-in (λ _. t) ps xs s p (lt s p) in let k = under_greatest
                (set_each (λ _. t) ps xs) ss s q in let h = le s p in omega arith
            go (inr out) = let e = set_each-out (λ _. t) ps xs s out in let k = under_greatest
                (set_each (λ _. t) ps xs) ss s q in omega arith

-- places that do not
pub greatest_unmet : (f : ℕ → ℕ) (ps xs ss : List ℕ) → ((s : ℕ) → IsIn s ss → IsIn s ps → ⊥) →
    greatest (at_places (set_each f ps xs) ss) ≡ greatest (at_places xs ss)
greatest_unmet f ps xs [] out = refl
greatest_unmet f ps xs (s ∷ ss) out =
    let e = set_each-out f ps xs s (out s (inl refl)) in let k = greatest_unmet f ps xs ss (λ t i. out t (inr i)) in
    omega arith

-- ---- places that rise are written once
fresh : (xs : List ℕ) (i : ℕ) → Rises xs → i < length xs → IsIn (slice_index xs i) (take i xs) → ⊥
fresh [] i r lt j = absurd (omega arith)
fresh (x ∷ xs) zero r lt j = j
fresh (x ∷ xs) (suc i) r lt (inl e) = absurd (let k = r.0 (slice_index xs i) (at xs i (omega arith)) in omega arith)
  where
    at : (xs : List ℕ) (i : ℕ) → i < length xs → IsIn (slice_index xs i) xs
    at [] i lt = absurd (omega arith)
    at (x ∷ xs) zero lt = inl refl
    at (x ∷ xs) (suc i) lt = inr (at xs i (omega arith))
fresh (x ∷ xs) (suc i) r lt (inr j) = fresh xs i r.1 (omega arith) j

-- the next place still has what it had
pub still : (f : ℕ → ℕ) (ss xs ys : List ℕ) (i : ℕ) → Rises ss → i < length ss → ys ≡ set_each f (take i ss) xs →
    slice_index ys (slice_index ss i) ≡ slice_index xs (slice_index ss i)
still f ss xs ys i r lt e = ap (λ zs. slice_index zs (slice_index ss i)) e
    ∙ set_each-out f (take i ss) xs (slice_index ss i) (fresh ss i r lt)

pub changed-more : (f : ℕ → ℕ) (ss xs ys : List ℕ) (i v : ℕ) → i < length ss → ys ≡ set_each f (take i ss) xs →
    v ≡ f (slice_index ss i) →
    slice_set ys (slice_index ss i) v ≡ set_each f (take (i + 1) ss) xs
changed-more f ss xs ys i v lt e h =
    ap (λ zs. slice_set zs (slice_index ss i) v) e ∙ ap (slice_set (set_each f (take i ss) xs) (slice_index ss i)) h
    ∙ sym (set_each-more f ss i xs lt)
