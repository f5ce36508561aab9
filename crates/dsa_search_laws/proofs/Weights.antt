-- In a placement of least weight the first buffer is settled.
use Rattle.std.proofs.Common.{◌≡◌, ℕ, suc, ◌+◌, ◌-◌, ◌*◌, ◌<◌, ◌≤◌, ◌⊎◌, inl, inr, true, false, List, map, length, sym, ap, ◌∙◌, arith}
use Rattle.std.specs.List.{list_any}
use Rattle.dsa_terms.specs.Buffers.{Instance, buffer, IsInstance}
use Rattle.dsa_terms.specs.Claims.{Entry, Claim, IsIn, IsClaim, up, Places, IsPlacement, number_of}
use Rattle.dsa_search_laws.proofs.Claims.{placement_from, number_of-map}
use Rattle.dsa_terms.specs.Logs.{ends_below, is_twin}
use Rattle.dsa_terms.proofs.Lists.{true_or_false, any_gives, none_passes}
use Rattle.dsa_terms.proofs.Moments.{sound}
use Rattle.dsa_search_laws.specs.Placements.{IsSettled as Settled, IsFirst, weight}
use Rattle.dsa_search_laws.proofs.Placing.{above_up, push_down}
use Rattle.dsa_search_laws.proofs.Complete.{put_at, put_at_same, put_at_other, rise}
use Rattle.dsa_search_laws.proofs.Moves.{weight_like, weight-put_at, below_is, twin_is, move_below, changed, changed_cases, change_places}

-- ---- each move takes weight away
-- a heavier factor at the lower place: a x + b y, with w + a x + b y the same as v + a y + b x
lighter : (a b x y v w : ℕ) → a < b → x < y → w + a * x + b * y ≡ v + a * y + b * x → w < v
lighter a b x y v w ab xy h =
    go (b - suc a) (y - suc x) (omega arith) (omega arith)
  where
    go : (d k : ℕ) → b ≡ a + suc d → y ≡ x + suc k → w < v
    go d k eb ey =
        let h2 : w + a * x + (a + suc d) * (x + suc k) ≡ v + a * (x + suc k) + (a + suc d) * x = rw (eb, ey) at h in
        omega (arith, h2)

lighter_at : (m x y v w : ℕ) → 0 < m → x < y → w + m * y ≡ v + m * x → w < v
lighter_at m x y v w pos xy h = go (y - suc x) (m - 1) (omega arith) (omega arith)
  where
    go : (k d : ℕ) → y ≡ x + suc k → m ≡ suc d → w < v
    go k d ey em = let h2 : w + suc d * (x + suc k) ≡ v + suc d * x = rw (ey, em) at h in omega (arith, h2)

in_range : (I : Instance) (l : Claim) (e : Entry) → IsClaim I l → IsIn e l → 0 < length I - e.0
in_range I l e c i = let k = c.in_range e i in omega arith

moved_lighter : (I : Instance) (l : Claim) (o : ℕ → ℕ) (e : Entry) (x : ℕ) → IsClaim I l → IsIn e l → x < o e.0 →
    weight I (put_at e.0 x o) l < weight I o l
moved_lighter I l o e x c i lt =
    lighter_at (length I - e.0) x (o e.0) (weight I o l) (weight I (put_at e.0 x o) l) (in_range I l e c i) lt
    (weight-put_at I o l e x c.rises i)

fits_at_up : (I : Instance) (C : ℕ) (l : Claim) (o : ℕ → ℕ) (e : Entry) → IsInstance I → Places I C l o → IsIn e l →
    up I e + (buffer I e.0).size ≤ C
fits_at_up I C l o e s p i = let a = above_up I C l o e s p i in let b = p.within e i in omega arith

lower_first : (I : Instance) (C : ℕ) (l : Claim) (o : ℕ → ℕ) (e : Entry) → IsInstance I → IsClaim I l → Places I C l o →
    IsFirst l o e → up I e < o e.0 →
    Places I C l (put_at e.0 (up I e) o) × (weight I (put_at e.0 (up I e) o) l < weight I o l)
lower_first I C l o e s c p first lt = (
  rise I C l o e s c.rises first.is_in (fits_at_up I C l o e s p first.is_in) (push_down I C l o e s p first),
  moved_lighter I l o e (up I e) c first.is_in lt,
)

move_under : (I : Instance) (C : ℕ) (l : Claim) (o : ℕ → ℕ) (e f : Entry) → IsInstance I → IsClaim I l →
    Places I C l o → IsFirst l o e → IsIn f l → ends_below I f e ≡ true →
    Places I C l (put_at f.0 (up I f) o) × (weight I (put_at f.0 (up I f) o) l < weight I o l)
move_under I C l o e f s c p first i h =
    let b = below_is I f e h in let a = above_up I C l o e s p first.is_in in let w = first.lowest f i in
    let z = (sound I f.0 s).0 in let bb = b.1 in (
      move_below I C l o f s c.rises i (fits_at_up I C l o f s p i)
          (λ g j. (let k = first.lowest g j in omega arith)) p,
      moved_lighter I l o f (up I f) c i (omega arith),
    )

change_lighter : (I : Instance) (C : ℕ) (l : Claim) (o : ℕ → ℕ) (e f : Entry) → IsClaim I l → IsFirst l o e → IsIn f l →
    f.0 < e.0 →
    weight I (λ c. o (changed e.0 f.0 c)) l < weight I o l
change_lighter I C l o e f c first i lt =
    let o' : ℕ → ℕ = put_at f.0 (o e.0) o in
    let first_move = weight-put_at I o l f (o e.0) c.rises i in
    let second_move = weight-put_at I (put_at f.0 (o e.0) o) l e (o f.0) c.rises first.is_in in
    let kept : put_at f.0 (o e.0) o e.0 ≡ o e.0 = put_at_other f.0 (o e.0) o e.0 (omega arith) in
    let same : weight I (λ c. o (changed e.0 f.0 c)) l ≡ weight I (put_at e.0 (o f.0) (put_at f.0 (o e.0) o)) l =
    weight_like I (put_at e.0 (o f.0) (put_at f.0 (o e.0) o)) (λ c. o (changed e.0 f.0 c)) l (λ g j. agree g.0) in
    let ce = c.in_range e first.is_in in
    let second : weight I (put_at e.0 (o f.0) (put_at f.0 (o e.0) o)) l + (length I - e.0) * o e.0 ≡ weight I
    (put_at f.0 (o e.0) o) l + (length I - e.0) * o f.0 = rw kept at second_move in
    lighter (length I - e.0) (length I - f.0) (o e.0) (o f.0) (weight I o l) (weight I (λ c. o (changed e.0 f.0 c)) l)
    (omega arith) strictly (rw same (omega (arith, first_move, second)))
  where
    strictly : o e.0 < o f.0
    strictly = let a = first.lowest f i in let b = first.least f i in go (cases (o e.0) (o f.0) a)
      where
        cases : (x y : ℕ) → x ≤ y → (x < y) ⊎ (x ≡ y)
        cases x y h = grind arith

        go : (o e.0 < o f.0) ⊎ (o e.0 ≡ o f.0) → o e.0 < o f.0
        go (inl h) = h
        go (inr h) = absurd (let k = first.least f i h in omega arith)

    agree : (x : ℕ) → o (changed e.0 f.0 x) ≡ put_at e.0 (o f.0) (put_at f.0 (o e.0) o) x
    agree x = elim (changed_cases e.0 f.0 x (omega arith)) [
      | inl q ↦ ap o q.1 ∙ sym (put_at_same e.0 (o f.0) (put_at f.0 (o e.0) o) x q.0)
      | inr (inl q) ↦ ap o q.1 ∙ sym (put_at_other e.0 (o f.0) (put_at f.0 (o e.0) o) x (let k = q.0 in omega arith)
          ∙ put_at_same f.0 (o e.0) o x q.0)
      | inr (inr q) ↦ ap o q.2 ∙ sym (put_at_other e.0 (o f.0) (put_at f.0 (o e.0) o) x q.0
          ∙ put_at_other f.0 (o e.0) o x q.1)
    ]

-- ---- the first buffer of offsets that place the claim stands at its up and is not excluded, or there are lighter
-- offsets
pub record IsSettled (I : Instance) (l : Claim) (o : ℕ → ℕ) (e : Entry) : Type 0 where
  pub at_up : o e.0 ≡ up I e
  pub no_below : list_any (λ f. ends_below I f e) l ≡ false
  pub no_twin : list_any (λ f. is_twin I f e) l ≡ false

pub settled_or_lighter : (I : Instance) (C : ℕ) (l : Claim) (o : ℕ → ℕ) (e : Entry) → IsInstance I → IsClaim I l →
    Places I C l o → IsFirst l o e →
    IsSettled I l o e ⊎ ((p : ℕ → ℕ) × Places I C l p × (weight I p l < weight I o l))
settled_or_lighter I C l o e s c p first =
    go (cases (up I e) (o e.0) (above_up I C l o e s p first.is_in))
    (true_or_false (list_any (λ f. ends_below I f e) l)) (true_or_false (list_any (λ f. is_twin I f e) l))
  where
    cases : (x y : ℕ) → x ≤ y → (x < y) ⊎ (y ≡ x)
    cases x y h = grind arith

    go : (up I e < o e.0) ⊎ (o e.0 ≡ up I e) →
        (list_any (λ f. ends_below I f e) l ≡ true) ⊎ (list_any (λ f. ends_below I f e) l ≡ false) →
        (list_any (λ f. is_twin I f e) l ≡ true) ⊎ (list_any (λ f. is_twin I f e) l ≡ false) →
        IsSettled I l o e ⊎ ((p : ℕ → ℕ) × Places I C l p × (weight I p l < weight I o l))
    go (inl h) b t = let r = lower_first I C l o e s c p first h in inr (put_at e.0 (up I e) o, r.0, r.1)
    go (inr h) (inl b) t =
        let f = any_gives (λ f. ends_below I f e) l b in
        let r = move_under I C l o e f.0 s c p first f.1 f.2 in inr (put_at f.0.0 (up I f.0) o, r.0, r.1)
    go (inr h) (inr b) (inl t) =
        let f = any_gives (λ f. is_twin I f e) l t in
        let w = twin_is I f.0 e f.2 in
        inr (
          (λ c. o (changed e.0 f.0.0 c)),
          change_places I C l o e f.0 s c.rises p first f.1 w,
          change_lighter I C l o e f.0 c first f.1 w.less,
        )
    go (inr h) (inr b) (inr t) = inl (record { at_up = h; no_below = b; no_twin = t })

-- ---- so in a placement of least weight the first buffer is settled
pub lightest_is_settled : (I : Instance) (C : ℕ) (l : Claim) (seats : List Entry) (e : Entry) → IsInstance I →
    IsClaim I l → IsPlacement I C l seats → IsFirst l (number_of seats) e →
    ((others : List Entry) → IsPlacement I C l others → weight I (number_of seats) l ≤ weight I (number_of others) l) →
    Settled I C l (number_of seats) e
lightest_is_settled I C l seats e s c p first least =
    elim (settled_or_lighter I C l (number_of seats) e s c p.places first) [
      | inl h ↦ record {
        at_up = h.at_up;
        no_below = λ f i. none_passes (λ f. ends_below I f e) l f h.no_below i;
        no_twin = λ f i. none_passes (λ f. is_twin I f e) l f h.no_twin i;
        rest = push_down I C l (number_of seats) e s p.places first;
      }
      | inr r ↦ absurd (
          let a = least (map (λ f. (f.0, r.0 f.0)) l) (placement_from I C l r.0 r.1) in
          let b = weight_like I r.0 (number_of (map (λ f. (f.0, r.0 f.0)) l)) l (number_of-map r.0 l) in
          let d = r.2 in omega arith)
    ]
