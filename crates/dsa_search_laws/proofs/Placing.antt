-- Offsets that place a claim, and those that place its children.
use Rattle.std.proofs.Common.{◌≡◌, ℕ, ◌+◌, ◌<◌, ◌≤◌, ◌≢◌, ◌⊎◌, inl, inr, Bool, true, false, cond, not, ◌==◌, [], ◌∷◌, filter, nat_lt, max, sym, refl, ap, ◌∙◌, subst, arith, eq-or-lt_of_le}
use Rattle.std.proofs.lemmas.Bool.Decides.{nat_tests}
use Rattle.dsa_terms.specs.Buffers.{Buffer, Instance, buffer, do_share, IsInstance}
use Rattle.dsa_terms.specs.Layouts.{IsApart, IsMultiple}
use Rattle.dsa_terms.specs.Claims.{Entry, Claim, IsIn, Rises, buffers_of, up, Places, step, child}
use Rattle.dsa_terms.proofs.Numbers.{next_at_or_above, next_is_multiple, next_is_least}
use Rattle.dsa_terms.proofs.Lists.{into_map, from_map, into_filter, from_filter, true_or_false}
use Rattle.dsa_terms.proofs.Moments.{do_share-gives, sound}
use Rattle.dsa_search_laws.specs.Placements.{IsFirst}

-- ---- up
pub up_at_or_above : (I : Instance) (e : Entry) → IsInstance I → e.1 ≤ up I e
unfolding up
up_at_or_above I e s = next_at_or_above e.1 (buffer I e.0).alignment (sound I e.0 s).1

pub up_is_multiple : (I : Instance) (e : Entry) → IsInstance I → IsMultiple (up I e) (buffer I e.0).alignment
unfolding up
up_is_multiple I e s = next_is_multiple e.1 (buffer I e.0).alignment (sound I e.0 s).1

pub up_is_least : (I : Instance) (e : Entry) (y : ℕ) → IsInstance I → e.1 ≤ y → IsMultiple y (buffer I e.0).alignment →
    up I e ≤ y
unfolding up
up_is_least I e y s le h = next_is_least e.1 (buffer I e.0).alignment y (sound I e.0 s).1 le h

-- each offset of a placement is at or above the up
pub above_up : (I : Instance) (C : ℕ) (l : Claim) (o : ℕ → ℕ) (e : Entry) → IsInstance I → Places I C l o → IsIn e l →
    up I e ≤ o e.0
above_up I C l o e s p i = up_is_least I e (o e.0) s (p.above e i) (p.aligned e i)

-- ---- claims rise
pub in_buffers : (l : Claim) (e : Entry) → IsIn e l → IsIn e.0 (buffers_of l)
in_buffers l e i = into_map (λ e. e.0) l e i

pub same_entry : (l : Claim) (e f : Entry) → Rises (buffers_of l) → IsIn e l → IsIn f l → e.0 ≡ f.0 → e ≡ f
same_entry [] e f r i j q = absurd i
same_entry (x ∷ xs) e f r (inl a) (inl b) q = a ∙ sym b
same_entry (x ∷ xs) e f r (inl a) (inr b) q = absurd (let k : x.0 < f.0 = r.0 f.0 (in_buffers xs f b) in
    let h : e.0 ≡ x.0 = ap (λ e. e.0) a in omega arith)
same_entry (x ∷ xs) e f r (inr a) (inl b) q = absurd (let k : x.0 < e.0 = r.0 e.0 (in_buffers xs e a) in
    let h : f.0 ≡ x.0 = ap (λ e. e.0) b in omega arith)
same_entry (x ∷ xs) e f r (inr a) (inr b) q = same_entry xs e f r.1 a b q

-- ---- the entries of a child
other_true : (b : ℕ) (f : Entry) → not (f.0 == b) ≡ true → f.0 ≢ b
other_true b f h q = grind (arith, nat_tests)

true_other : (b : ℕ) (f : Entry) → f.0 ≢ b → not (f.0 == b) ≡ true
true_other b f h = grind (arith, nat_tests)

pub in_child : (I : Instance) (l : Claim) (e f : Entry) → IsIn f l → f.0 ≢ e.0 →
    IsIn (f.0, max (up I f) (up I e + step I e.0 f.0)) (child I l e)
unfolding child
in_child I l e f i ne =
    into_map (λ f. (f.0, max (up I f) (up I e + step I e.0 f.0))) (filter (λ f. not (f.0 == e.0)) l) f
    (into_filter (λ f. not (f.0 == e.0)) l f i (true_other e.0 f ne))

pub of_child : (I : Instance) (l : Claim) (e g : Entry) → IsIn g (child I l e) →
    (f : Entry) × IsIn f l × (f.0 ≢ e.0) × (g ≡ (f.0, max (up I f) (up I e + step I e.0 f.0)))
unfolding child
of_child I l e g i =
    let r = from_map (λ f. (f.0, max (up I f) (up I e + step I e.0 f.0))) (filter (λ f. not (f.0 == e.0)) l) g i in
    let q = from_filter (λ f. not (f.0 == e.0)) l r.0 r.1 in
    (r.0, q.0, other_true e.0 r.0 q.1, r.2)

-- ---- pushing down: the offsets that place a claim place its child by the lowest buffer
strictly : (m n x y : ℕ) → x ≤ y → (x ≡ y → m ≤ n) → n < m → x < y
strictly m n x y le q lt = elim (eq-or-lt_of_le le) [ inl e ↦ absurd (let k : m ≤ n = q e in omega arith) | inr h ↦ h ]

step_below : (b c : Buffer) (m n x y u : ℕ) (share : Bool) → u ≤ x →
    (share ≡ true → x + b.size ≤ y) → x ≤ y → (x ≡ y → m ≤ n) → u + cond share b.size (cond (nat_lt n m) 1 0) ≤ y
step_below b c m n x y u true le h k q = let r : x + b.size ≤ y = h refl in omega arith
step_below b c m n x y u false le h k q = go (true_or_false (nat_lt n m))
  where
    go : (nat_lt n m ≡ true) ⊎ (nat_lt n m ≡ false) → u + cond (nat_lt n m) 1 0 ≤ y
    go (inl t) = rw t (let lt : n < m = (grind (arith, nat_tests)) in let less : x < y = strictly m n x y k q lt in
        omega arith)
    go (inr t) = rw t (omega arith)

pub push_down : (I : Instance) (C : ℕ) (l : Claim) (o : ℕ → ℕ) (e : Entry) → IsInstance I → Places I C l o →
    IsFirst l o e → Places I C (child I l e) o
unfolding step
push_down I C l o e s p first = record {
  aligned = λ g i. let r = of_child I l e g i in
      subst (λ (g : Entry). IsMultiple (o g.0) (buffer I g.0).alignment) (sym r.3) (p.aligned r.0 r.1);
  above = λ g i. let r = of_child I l e g i in subst (λ (g : Entry). g.1 ≤ o g.0) (sym r.3) (bound r.0 r.1 r.2);
  within = λ g i. let r = of_child I l e g i in
      subst (λ (g : Entry). o g.0 + (buffer I g.0).size ≤ C) (sym r.3) (p.within r.0 r.1);
  apart = λ g h t i j ne lg lh. let r = of_child I l e g i in let q = of_child I l e h j in
      let a : g.0 ≡ r.0.0 = ap (λ (g : Entry). g.0) r.3 in
      let b : h.0 ≡ q.0.0 = ap (λ (g : Entry). g.0) q.3 in
      rw (a, b) (p.apart r.0 q.0 t r.1 q.1 (λ n. ne (a ∙ n ∙ sym b)) (rw a at lg) (rw b at lh));
}
  where
    over : (f : Entry) → IsIn f l → f.0 ≢ e.0 → do_share (buffer I e.0) (buffer I f.0) ≡ true →
        o e.0 + (buffer I e.0).size ≤ o f.0
    over f i ne h =
        let m = do_share-gives (buffer I e.0) (buffer I f.0) h in
        close (p.apart e f m.0 first.is_in i (λ n. ne (sym n)) m.1 m.2)
      where
        close : IsApart (buffer I e.0) (o e.0) (buffer I f.0) (o f.0) → o e.0 + (buffer I e.0).size ≤ o f.0
        close (inl q) = q
        close (inr q) = let k = first.lowest f i in let z = sound I f.0 s in omega arith

    unfolded : (f : Entry) → IsIn f l → f.0 ≢ e.0 → up I e + step I e.0 f.0 ≤ o f.0
    unfolded f i ne =
        step_below (buffer I e.0) (buffer I f.0) e.0 f.0 (o e.0) (o f.0) (up I e)
        (do_share (buffer I e.0) (buffer I f.0))
        (above_up I C l o e s p first.is_in) (over f i ne) (first.lowest f i) (first.least f i)

    bound : (f : Entry) → IsIn f l → f.0 ≢ e.0 → max (up I f) (up I e + step I e.0 f.0) ≤ o f.0
    bound f i ne = let a = above_up I C l o f s p i in let b = unfolded f i ne in omega arith
