-- Tests of lists and what they say, and the parts of a reason.
use Rattle.std.proofs.Common.{◌≡◌, ℕ, zero, suc, ◌+◌, ◌<◌, Bool, true, false, not, ◌&&◌, ◌==◌, nat_le, List, [], ◌∷◌, map, length, drop, Option, Some, None, slice_get, slice_index_or, All, subst, refl, sym, ap, ◌∙◌, arith}
use Rattle.std.specs.Option.{option_or}
use Rattle.std.specs.List.{list_any}
use Rattle.dsa_terms.specs.Buffers.{Instance}
use Rattle.dsa_terms.specs.Claims.{Claim, Entry, up, child, Covers}
use Rattle.dsa_terms.proofs.NumberTests.{equal, same, at_most, is_at_most}
use Rattle.dsa_terms.specs.Logs.{Line, claim_of, Cite}
use Rattle.dsa_terms.proofs.Lists.{all_at, all_from, any_gives, any_from}
use Rattle.dsa_terms.proofs.Moments.{and_true, both_true}
use Rattle.dsa_terms.specs.Firsts.{when}
use Rattle.refute_log.specs.Reasons.{covers, line_reason, cite_reason, cites_reason}
use Rattle.refute_log.specs.declared.reason.Reason.{Reason}
use Rattle.refute_log.specs.declared.reason.Reason.TheVariants as reason

pub not_false : {X : Type 0} (b : Bool) → b ≡ false → b ≡ true → X
not_false b h k = absurd cc

-- ---- covering
pub covers_gives : (I : Instance) (k l : Claim) → covers I k l ≡ true → Covers I k l
unfolding covers
covers_gives I k l h e i =
    let q = any_gives (λ (f : Entry). (f.0 == e.0) && nat_le e.1 (up I f)) l
    (all_at (λ (e : Entry). list_any (λ (f : Entry). (f.0 == e.0) && nat_le e.1 (up I f)) l) k e h i) in
    let r = and_true _ _ q.2 in
    (q.0, q.1, equal q.0.0 e.0 r.0, at_most e.1 (up I q.0) r.1)

pub covers_from : (I : Instance) (k l : Claim) → Covers I k l → covers I k l ≡ true
unfolding covers
covers_from I k l h = all_from (λ (e : Entry). list_any (λ (f : Entry). (f.0 == e.0) && nat_le e.1 (up I f)) l) k
    (λ e i. let q = h e i in any_from (λ (f : Entry). (f.0 == e.0) && nat_le e.1 (up I f)) l q.0 q.1
    (both_true _ _ (same q.0.0 e.0 q.2) (is_at_most e.1 (up I q.0) q.3)))

-- ---- a reason, where a test fails
pub no_reason : {F : Type 0} (b : Bool) (f : F) → b ≡ true → None ≡ when (not b) f
no_reason true f h = refl
no_reason false f h = absurd cc

pub a_reason : {F : Type 0} (b : Bool) (f : F) → (b ≡ true → ⊥) → Some f ≡ when (not b) f
a_reason true f h = absurd (h refl)
a_reason false f h = refl

-- ---- the line of a number
pub at : {X Y : Type 0} (f : X → Y) (xs : List X) (k : ℕ) (x : X) → k < length xs → x ≡ slice_index_or xs k x →
    slice_get (map f xs) k ≡ Some (f x)
at f [] k x lt e = absurd (omega arith)
at f (y ∷ ys) zero x lt e = ap (λ x. Some (f x)) (sym e)
at f (y ∷ ys) (suc k) x lt e = at f ys k x (omega arith) e

pub line_covers : {X : Type 0} (f : X → Line) (lines : List X) (I : Instance) (l : Claim) (e : Entry) (k : ℕ) (line : X)
    (claim : Claim) →
    k < length lines → line ≡ slice_index_or lines k line → claim ≡ claim_of (f line) → Covers I claim (child I l e) →
    None ≡ line_reason I l e (slice_get (map f lines) k)
line_covers f lines I l e k line claim lt q r h =
    rw (at f lines k line lt q) (no_reason (covers I (claim_of (f line)) (child I l e)) (reason.NotCovered e.0)
    (covers_from I (claim_of (f line)) (child I l e) (rw (← r) h)))

pub line_does_not_cover : {X : Type 0} (f : X → Line) (lines : List X) (I : Instance) (l : Claim) (e : Entry) (k : ℕ)
    (line : X) (claim : Claim) →
    k < length lines → line ≡ slice_index_or lines k line → claim ≡ claim_of (f line) →
    (Covers I claim (child I l e) → ⊥) →
    Some (reason.NotCovered e.0) ≡ line_reason I l e (slice_get (map f lines) k)
line_does_not_cover f lines I l e k line claim lt q r h =
    rw (at f lines k line lt q) (a_reason (covers I (claim_of (f line)) (child I l e)) (reason.NotCovered e.0)
    (λ t. h (rw r (covers_gives I (claim_of (f line)) (child I l e) t))))

drop_none : {X : Type 0} (xs : List X) → drop 0 xs ≡ xs
drop_none [] = refl
drop_none (x ∷ xs) = refl

-- ---- what stands at a place
pub holds_at : {X Y : Type 0} (P : Y → Type 0) (f : X → Y) (xs : List X) (ys : List Y) (k : ℕ) (x : X) → map f xs ≡ ys →
    All P (map f xs) → k < length ys → x ≡ slice_index_or xs k x → P (f x)
holds_at P f xs ys k x e h lt q = go P f xs k x h (subst (λ ys. k < length ys) (sym e) lt) q
  where
    go : {X Y : Type 0} (P : Y → Type 0) (f : X → Y) (xs : List X) (k : ℕ) (x : X) → All P (map f xs) →
        k < length (map f xs) → x ≡ slice_index_or xs k x → P (f x)
    go P f [] k x h lt q = absurd (omega arith)
    go P f (y ∷ ys) zero x h lt q = subst (λ x. P (f x)) (sym q) (h 0 (f y) (omega arith))
    go P f (y ∷ ys) (suc k) x h lt q = go P f ys k x (λ j d m. h (suc j) d (omega arith)) (omega arith) q

-- ---- the cites, one after another
pub next_cite : {X : Type 0} (f : X → Cite) (I : Instance) (earlier : List Line) (l es : Claim) (cites : List X) (n : ℕ)
    (e : Entry) (d : X) (o : Option Reason) →
    n < length es → n < length cites → e ≡ slice_index_or es n (0, 0) →
    o ≡ cite_reason I earlier l e (f (slice_index_or cites n d)) →
    cites_reason I earlier l (drop n es) (drop n (map f cites)) ≡ option_or o
    (cites_reason I earlier l (drop (n + 1) es) (drop (n + 1) (map f cites)))
next_cite {X = X} f I earlier l es cites n e d o lt lu p r = rw (add_one n) (go es cites n lt lu p r)
  where
    add_one : (n : ℕ) → n + 1 ≡ suc n
    add_one n = omega arith

    go : (es : Claim) (cites : List X) (n : ℕ) → n < length es → n < length cites → e ≡ slice_index_or es n (0, 0) →
        o ≡ cite_reason I earlier l e (f (slice_index_or cites n d)) →
        cites_reason I earlier l (drop n es) (drop n (map f cites)) ≡ option_or o
        (cites_reason I earlier l (drop (suc n) es) (drop (suc n) (map f cites)))
    go [] cites n lt lu p r = absurd (omega arith)
    go (y ∷ ys) [] n lt lu p r = absurd (omega arith)
    go (y ∷ ys) (z ∷ zs) zero lt lu p r = rw (drop_none ys, drop_none (map f zs))
        (let k : o ≡ cite_reason I earlier l y (f z) = r ∙ ap (λ (e : Entry). cite_reason I earlier l e (f z)) p in
        rw k refl)
    go (y ∷ ys) (z ∷ zs) (suc n) lt lu p r = go ys zs n (omega arith) (omega arith) p r

-- ---- lines by number
pub same_line : {X : Type 0} (xs : List X) (k : ℕ) (x y : X) → slice_get xs k ≡ Some x → slice_get xs k ≡ Some y → x ≡ y
same_line xs k x y h j = cc
