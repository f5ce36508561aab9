-- What a claim with its lows as bounds has in common with the claim.
use Rattle.std.proofs.Common.{◌≡◌, ℕ, ◌<◌, ◌≤◌, ◌+◌, ◌^◌, ◌==◌, Bool, true, false, not, cond, List, [], ◌∷◌, filter, length, map, max, refl, sym, ap, ◌∙◌, subst, arith}
use Rattle.std.specs.List.{list_any}
use Rattle.branching.proofs.Words.{Instance, IsInstance, Claim, Covers, Entry, IsIn, Rises, buffers_of, child, step, up, Line, claim_of, ends_below, is_twin, not_excluded, from_map, HasBuffer, IsBoundedBy, entry_of, Stands, IsCoveredBy, NoneCovers}
use Rattle.claim_levels.specs.Lifted.{lift, lifted}
use Rattle.claim_levels.proofs.Lifting.{up_of_lift, buffers_of-lifted, lifted_rises, lifted_entry}
use Rattle.branching.specs.declared.notes.Refuted.{Refuted}
use Rattle.branching.specs.Cites.{IsChildCovered}
use Rattle.branching.specs.Logs.{Extends}
use Rattle.branching.proofs.Growing.{extends_along, extends_none}

-- ---- children
child_of_lifted : (I : Instance) (l : Claim) (e : Entry) → IsInstance I →
    child I (lifted I l) (lift I e) ≡ child I l e
unfolding child
child_of_lifted I [] e s = refl
child_of_lifted I (x ∷ xs) e s = go (not (x.0 == e.0)) (child_of_lifted I xs e s)
  where
    raise : Entry → Entry → Entry
    raise e f = (f.0, max (up I f) (up I e + step I e.0 f.0))

    same : raise (lift I e) (lift I x) ≡ raise e x
    same = ap (λ (u : ℕ). let f : Entry = (x.0, max (up I (lift I x)) (u + step I e.0 x.0)) in f) (up_of_lift I e s)
        ∙ ap (λ (u : ℕ). let f : Entry = (x.0, max u (up I e + step I e.0 x.0)) in f) (up_of_lift I x s)

    go : (t : Bool) → map (raise (lift I e)) (filter (λ f. not (f.0 == e.0)) (lifted I xs))
        ≡ map (raise e) (filter (λ f. not (f.0 == e.0)) xs) →
        map (raise (lift I e)) (cond t (lift I x ∷ filter (λ f. not (f.0 == e.0)) (lifted I xs))
        (filter (λ f. not (f.0 == e.0)) (lifted I xs)))
        ≡ map (raise e) (cond t (x ∷ filter (λ f. not (f.0 == e.0)) xs) (filter (λ f. not (f.0 == e.0)) xs))
    go true ih = ap (λ (y : Entry). y ∷ map (raise (lift I e)) (filter (λ f. not (f.0 == e.0)) (lifted I xs))) same
        ∙ ap (λ ys. raise e x ∷ ys) ih
    go false ih = ih

pub lifted_child : (I : Instance) (l : Claim) (b : ℕ) → IsInstance I → Rises (buffers_of l) → HasBuffer l b →
    child I (lifted I l) (entry_of (lifted I l) b) ≡ child I l (entry_of l b)
lifted_child I l b s r h = ap (child I (lifted I l)) (sym (lifted_entry I l b r h))
    ∙ child_of_lifted I l (entry_of l b) s

-- ---- what the rules exclude
any_lifted : (I : Instance) (p q : Entry → Bool) (l : Claim) → ((f : Entry) → p (lift I f) ≡ q f) →
    list_any p (lifted I l) ≡ list_any q l
any_lifted I p q [] h = refl
any_lifted I p q (x ∷ xs) h = rw (h x, any_lifted I p q xs h) refl

below_lifted : (I : Instance) (f e : Entry) → IsInstance I → ends_below I (lift I f) (lift I e) ≡ ends_below I f e
unfolding ends_below
below_lifted I f e s = rw (up_of_lift I f s, up_of_lift I e s) refl

twin_lifted : (I : Instance) (f e : Entry) → IsInstance I → is_twin I (lift I f) (lift I e) ≡ is_twin I f e
unfolding is_twin
twin_lifted I f e s = rw (up_of_lift I f s, up_of_lift I e s) refl

lifted_excluded : (I : Instance) (l : Claim) (e : Entry) → IsInstance I →
    not_excluded I (lifted I l) (lift I e) ≡ not_excluded I l e
lifted_excluded I l e s = rw (
  any_lifted I (λ f. ends_below I f (lift I e)) (λ f. ends_below I f e) l (λ f. below_lifted I f e s),
  any_lifted I (λ f. is_twin I f (lift I e)) (λ f. is_twin I f e) l (λ f. twin_lifted I f e s),
) refl

-- what is said of each entry that no rule excludes
pub lifted_noted : (I : Instance) (l : Claim) (bs : List ℕ) → IsInstance I →
    ((e : Entry) → IsIn e l → not_excluded I l e ≡ true → IsIn e.0 bs) →
    (e : Entry) → IsIn e (lifted I l) → not_excluded I (lifted I l) e ≡ true → IsIn e.0 bs
lifted_noted I l bs s h e i t =
    let r = from_map (lift I) l e i in
    subst (λ b. IsIn b bs) (sym (ap (λ (e : Entry). e.0) r.2))
    (h r.0 r.1 (sym (lifted_excluded I l r.0 s) ∙ sym (ap (not_excluded I (lifted I l)) r.2) ∙ t))

-- ---- covering
pub covers_lifted : (I : Instance) (l : Claim) → Covers I (lifted I l) l
covers_lifted I l e i =
    let r = from_map (lift I) l e i in
    (r.0, r.1, sym (ap (λ (e : Entry). e.0) r.2), (let k : e.1 ≡ up I r.0 = ap (λ (e : Entry). e.1) r.2 in omega arith))

pub covers_from_lifted : (I : Instance) (k l : Claim) → IsInstance I → Covers I k (lifted I l) → Covers I k l
covers_from_lifted I k l s h e i =
    let c = h e i in
    let r = from_map (lift I) l c.0 c.1 in (
      r.0,
      r.1,
      sym (ap (λ (e : Entry). e.0) r.2) ∙ c.2,
      (let u : up I c.0 ≡ up I r.0 = ap (up I) r.2 ∙ up_of_lift I r.0 s in let le : e.1 ≤ up I c.0 = c.3 in
          omega arith),
    )

pub lifted_fresh : (I : Instance) (lines : List Line) (l : Claim) → IsInstance I → NoneCovers I lines l →
    NoneCovers I lines (lifted I l)
lifted_fresh I lines l s h k line at covers = h k line at (covers_from_lifted I (claim_of line) l s covers)

pub covered_from_lifted : (I : Instance) (lines : List Line) (l : Claim) (k : ℕ) → IsInstance I →
    IsCoveredBy I lines (lifted I l) k → IsCoveredBy I lines l k
covered_from_lifted I lines l k s c = record {
  limit = c.limit;
  line = c.line;
  stands = c.stands;
  covers = covers_from_lifted I _ l s c.covers;
}

pub lifted_covered : (I : Instance) (lines : List Line) (l : Claim) (r : Refuted) → IsInstance I →
    Rises (buffers_of l) → HasBuffer l r.buffer → IsChildCovered I lines l r → IsChildCovered I lines (lifted I l) r
lifted_covered I lines l r s rises h c =
    subst (λ (k : Claim). IsCoveredBy I lines k r.line) (sym (lifted_child I l r.buffer s rises h)) c

pub lifted_stands : (I : Instance) (l : Claim) → Stands I l → IsBoundedBy (2 ^ 60) (lifted I l) → Stands I (lifted I l)
lifted_stands I l s low = record {
  claim = record {
    rises = lifted_rises I l s.claim.rises;
    in_range = λ e i. (let r = from_map (lift I) l e i in
        subst (λ b. b < length I) (sym (ap (λ (e : Entry). e.0) r.2)) (s.claim.in_range r.0 r.1));
  };
  bounds = λ e i. (let k = low e i in omega arith);
  buffers = s.buffers;
  count = s.count;
}

pub lifted_extends : (I : Instance) (l : Claim) (before after : List Line) → Extends (lifted I l) before after →
    Extends l before after
lifted_extends I l before after grown =
    extends_along _ l _ _ _ (λ b h. subst (IsIn b) (buffers_of-lifted I l) h)
    (extends_none l before) grown

-- ---- whether there is a buffer
pub lifted_nothing : (I : Instance) (l : Claim) → length (lifted I l) ≡ 0 → l ≡ []
lifted_nothing I [] e = refl
lifted_nothing I (x ∷ xs) e = absurd cc
