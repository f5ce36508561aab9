-- Differences found in one pass: what is left of both claims.
use Rattle.std.proofs.Common.{◌≡◌, ◌↔◌, ◌⊎◌, inl, inr, ℕ, ◌+◌, ◌<◌, ◌≤◌, Bool, IsTrue, true, false, cond, List, [], ◌∷◌, ◌++◌, map, drop, length, get_or, refl, sym, ap, ◌∙◌, subst, arith, append_assoc}
use Rattle.std.proofs.lemmas.List.{append-nil}
use Rattle.dsa_terms.specs.Claims.{Claim, Entry}
use Rattle.dsa_terms.proofs.Lists.{true_or_false}
use Rattle.log_text.specs.Changes.{Change, DoesChange, Drops, Puts, above, below, difference, has_entry}
use Rattle.log_text.proofs.Carrying.{drop_index, drop_past}
use Rattle.log_text.proofs.Differences.{above_less, below_more, has_in, has_not}

-- these changes were found, and those from what is left of both claims are still to come
pub record IsDiffering (base claim : Claim) (found : List Change) (l m : Claim) : Type 0 where
  pub same : found ++ difference l m ≡ difference base claim

pub none_found : (base claim : Claim) (found : List Change) → found ≡ [] → IsDiffering base claim found base claim
none_found base claim found e = record { same = ap (λ (cs : List Change). cs ++ difference base claim) e }

-- an entry below the first of the other claim is dropped
drops_first : (e f : Entry) (l m : Claim) → e.0 < f.0 → difference (e ∷ l) (f ∷ m) ≡ Drops e.0 ∷ difference l (f ∷ m)
drops_first e f l m h = pieces (below_more f.0 e l h) (has_entry f (e ∷ l)) (has_entry f l) other
    (above_less f.0 e l (omega arith))
  where
    other : has_entry f (e ∷ l) ≡ has_entry f l
    other = agree (true_or_false (has_entry f (e ∷ l))) (true_or_false (has_entry f l))
      where
        agree : (has_entry f (e ∷ l) ≡ true) ⊎ (has_entry f (e ∷ l) ≡ false) →
            (has_entry f l ≡ true) ⊎ (has_entry f l ≡ false) → has_entry f (e ∷ l) ≡ has_entry f l
        agree (inl p) (inl q) = p ∙ sym q
        agree (inr p) (inr q) = p ∙ sym q
        agree (inl p) (inr q) = absurd (elim (has_in f (e ∷ l) p) [
          | inl s ↦ let k : f.0 ≡ e.0 = ap (λ (g : Entry). g.0) s in omega arith
          | inr i ↦ has_not f l q i
        ])
        agree (inr p) (inl q) = absurd (has_not f (e ∷ l) p (inr (has_in f l q)))

    pieces : {low : Claim} → low ≡ e ∷ below f.0 l → (s t : Bool) → s ≡ t → {high : Claim} → high ≡ above f.0 l →
        map (λ (g : Entry). Drops g.0) low ++ (cond s [] (Puts f ∷ []) ++ difference high m)
        ≡ Drops e.0 ∷ (map (λ (g : Entry). Drops g.0) (below f.0 l)
        ++ (cond t [] (Puts f ∷ []) ++ difference (above f.0 l) m))
    pieces p s t q r = rw (p, q, r) refl

pub drop_found : (base claim : Claim) (found more : List Change) (place next b : ℕ) → place < length base →
    next < length claim → (get_or base place (0, 0)).0 < b → b ≡ (get_or claim next (0, 0)).0 →
    IsDiffering base claim found (drop place base) (drop next claim) →
    more ≡ found ++ Drops (get_or base place (0, 0)).0 ∷ [] →
    IsDiffering base claim more (drop (place + 1) base) (drop next claim)
drop_found base claim found more place next b lt ln h e p q = record {
  same = ap (λ (cs : List Change). cs ++ difference (drop (place + 1) base) (drop next claim)) q
      ∙ (append_assoc found (Drops (get_or base place (0, 0)).0 ∷ [])
      (difference (drop (place + 1) base) (drop next claim))
      ∙ (ap (λ (cs : List Change). found ++ cs) (sym one) ∙ p.same));
}
  where
    one : difference (drop place base) (drop next claim)
        ≡ Drops (get_or base place (0, 0)).0 ∷ difference (drop (place + 1) base) (drop next claim)
    one = ap (λ (l : Claim). difference l (drop next claim)) (drop_index base place (0, 0) lt)
        ∙ (ap (λ (m : Claim). difference (get_or base place (0, 0) ∷ drop (place + 1) base) m)
        (drop_index claim next (0, 0) ln)
        ∙ (drops_first (get_or base place (0, 0)) (get_or claim next (0, 0)) (drop (place + 1) base)
        (drop (next + 1) claim)
        (let k : (get_or base place (0, 0)).0 < b = h in omega arith)
        ∙ ap (λ (m : Claim). Drops (get_or base place (0, 0)).0 ∷ difference (drop (place + 1) base) m)
        (sym (drop_index claim next (0, 0) ln))))

-- where nothing of the claim is below the first entry of the other one, that one decides
pub pair_found : (base claim : Claim) (found more : List Change) (place next : ℕ) (rest : Claim) (f : Entry)
    (r : Bool) →
    next < length claim → get_or claim next (0, 0) ≡ f → below f.0 (drop place base) ≡ [] →
    rest ≡ above f.0 (drop place base) →
    IsTrue r ↔ DoesChange (drop place base) (Puts f) → more ≡ cond r (found ++ Puts f ∷ []) found →
    IsDiffering base claim found (drop place base) (drop next claim) →
    IsDiffering base claim more rest (drop (next + 1) claim)
pair_found base claim found more place next rest f r ln at none past h q p = record {
  same = ap (λ (l : Claim). more ++ difference l (drop (next + 1) claim)) past
      ∙ (decided r h q (true_or_false (has_entry f (drop place base)))
      ∙ (ap (λ (cs : List Change). found ++ cs) (sym one) ∙ p.same));
}
  where
    one : difference (drop place base) (drop next claim)
        ≡ cond (has_entry f (drop place base)) [] (Puts f ∷ [])
        ++ difference (above f.0 (drop place base)) (drop (next + 1) claim)
    one = ap (λ (m : Claim). difference (drop place base) m)
        (drop_index claim next (0, 0) ln ∙ ap (λ (e : Entry). e ∷ drop (next + 1) claim) at)
        ∙ ap (λ (l : Claim). map (λ (e : Entry). Drops e.0) l ++ (cond (has_entry f (drop place base)) [] (Puts f ∷ [])
        ++ difference (above f.0 (drop place base)) (drop (next + 1) claim))) none

    decided : (r : Bool) → IsTrue r ↔ DoesChange (drop place base) (Puts f) →
        more ≡ cond r (found ++ Puts f ∷ []) found →
        (has_entry f (drop place base) ≡ true) ⊎ (has_entry f (drop place base) ≡ false) →
        more ++ difference (above f.0 (drop place base)) (drop (next + 1) claim) ≡ found
        ++ (cond (has_entry f (drop place base)) [] (Puts f ∷ [])
        ++ difference (above f.0 (drop place base)) (drop (next + 1) claim))
    decided true h q (inl e) = absurd (h.0 refl (has_in f (drop place base) e))
    decided true h q (inr e) = ap (λ (cs : List Change). cs
        ++ difference (above f.0 (drop place base)) (drop (next + 1) claim)) q
        ∙ (append_assoc found (Puts f ∷ []) (difference (above f.0 (drop place base)) (drop (next + 1) claim))
        ∙ ap (λ (t : Bool). found ++ (cond t [] (Puts f ∷ [])
        ++ difference (above f.0 (drop place base)) (drop (next + 1) claim))) (sym e))
    decided false h q (inl e) = ap (λ (cs : List Change). cs
        ++ difference (above f.0 (drop place base)) (drop (next + 1) claim)) q
        ∙ ap (λ (t : Bool). found ++ (cond t [] (Puts f ∷ [])
        ++ difference (above f.0 (drop place base)) (drop (next + 1) claim))) (sym e)
    decided false h q (inr e) = absurd (let t : false ≡ true = h.1 (has_not f (drop place base) e) in cc)

-- the other claim is at its end
pub no_pair_left : (base claim : Claim) (found : List Change) (place next : ℕ) → length claim ≤ next →
    IsDiffering base claim found (drop place base) (drop next claim) → IsDiffering base claim found (drop place base) []
no_pair_left base claim found place next h p =
    subst (λ (m : Claim). IsDiffering base claim found (drop place base) m) (drop_past claim next h) p

pub rest_found : (base claim : Claim) (found more : List Change) (k : ℕ) → k < length base →
    more ≡ found ++ Drops (get_or base k (0, 0)).0 ∷ [] → IsDiffering base claim found (drop k base) [] →
    IsDiffering base claim more (drop (k + 1) base) []
rest_found base claim found more k lt q p = record {
  same = ap (λ (cs : List Change). cs ++ map (λ (e : Entry). Drops e.0) (drop (k + 1) base)) q
      ∙ (append_assoc found (Drops (get_or base k (0, 0)).0 ∷ []) (map (λ (e : Entry). Drops e.0) (drop (k + 1) base))
      ∙ (ap (λ (l : Claim). found ++ map (λ (e : Entry). Drops e.0) l) (sym (drop_index base k (0, 0) lt)) ∙ p.same));
}

pub all_found : (base claim : Claim) (found : List Change) (k : ℕ) → length base ≤ k →
    IsDiffering base claim found (drop k base) [] → found ≡ difference base claim
all_found base claim found k h p = sym (append-nil found)
    ∙ (ap (λ (l : Claim). found ++ map (λ (e : Entry). Drops e.0) l) (sym (drop_past base k h)) ∙ p.same)

-- one change more
pub values_more : {X : Type 0} (f : X → Change) (xs ys : List X) (x : X) → ys ≡ xs ++ x ∷ [] →
    map f ys ≡ map f xs ++ f x ∷ []
values_more {X = X} f xs ys x e = ap (λ (zs : List X). map f zs) e ∙ go xs
  where
    go : (xs : List X) → map f (xs ++ x ∷ []) ≡ map f xs ++ f x ∷ []
    go [] = refl
    go (y ∷ ys) = ap (λ (u : List Change). f y ∷ u) (go ys)

pub was_put : {X : Type 0} (f : X → Change) (old new : List X) (x : X) (r : Bool) → r ≡ true → new ≡ old ++ x ∷ [] →
    map f new ≡ cond r (map f old ++ f x ∷ []) (map f old)
was_put f old new x true e q = values_more f old new x q
was_put f old new x false e q = absurd cc

pub was_left : {X : Type 0} (f : X → Change) (old new : List X) (d : Change) (r : Bool) → r ≡ false → new ≡ old →
    map f new ≡ cond r (map f old ++ d ∷ []) (map f old)
was_left f old new d true e q = absurd cc
was_left {X = X} f old new d false e q = ap (λ (xs : List X). map f xs) q
