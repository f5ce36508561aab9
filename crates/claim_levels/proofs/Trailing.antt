-- The way down to a child and back up.
use Rattle.std.proofs.Common.{◌≡◌, ℕ, ◌+◌, ◌-◌, ◌<◌, ◌≤◌, ◌^◌, List, [], ◌∷◌, ◌++◌, All, length, reverse, slice_get, slice_index, Some, length-append, true, false, sym, ap, ◌∙◌, subst, arith}
use Rattle.std.proofs.lemmas.Grind.{get_or_default_zero}
use Rattle.std.proofs.lemmas.List.{get_or-append-add, reverse-append}
use Rattle.std.proofs.lemmas.Option.{slice_get-get_or}
use Rattle.lifetime.specs.Switching.{IsSwitched}
use Rattle.claim_levels.proofs.Words.{Instance, Entry, IsIn, level_inside}
use Rattle.claim_levels.specs.declared.raising.Raising.{Raising}
use Rattle.claim_levels.specs.declared.trail.Step.{Step}
use Rattle.claim_levels.specs.Children.{AreOfChild}
use Rattle.claim_levels.specs.Levels.{AreLed, HasLowChild}
use Rattle.claim_levels.specs.Raisings.{IsRaised, IsRaising}
use Rattle.claim_levels.specs.Trails.{AreSteps, IsStep, IsTrail, all_before, before, undone}
use Rattle.claim_levels.proofs.Grounding.{some_within}
use Rattle.claim_levels.proofs.LeftBuffers.{child_left, claim_left}
use Rattle.claim_levels.proofs.RaisingSteps.{raised_child, under_each}
use Rattle.claim_levels.proofs.Undoing.{undone_is}

-- what holds of each number holds of all that the list has
pub all_under : (levels : List ℕ) (top : ℕ) → ((c : ℕ) → slice_index levels c ≤ top) → All (λ level. level ≤ top) levels
all_under levels top h = λ k d lt. (let e = get_or_default_zero levels k d lt in let m = h k in omega (arith, e, m))

pub last_first : (rest : List Step) (s : Step) → reverse (rest ++ s ∷ []) ≡ s ∷ reverse rest
last_first rest s = reverse-append rest (s ∷ [])

-- ---- the way down
module _ (I : Instance) (levels : List ℕ) (b top : ℕ) (r : Raising) (s : Step) (e : s.buffer ≡ b) (t : s.top ≡ top)
    (q : s.changes.items ≡ r.changes.items) (h : IsRaising I levels b r) where
  pub before_is : before r.numbers.items s ≡ levels
  before_is = ap (λ (cs : List Entry). undone cs r.numbers.items) q
      ∙ undone_is levels r.changes.items r.numbers.items h.count h.noted h.were

  module _ (left : List ℕ) (led : AreLed levels left top) (low : HasLowChild I levels b)
      (done : (c : ℕ) → IsRaised I levels b r.numbers.items c) where
    step_is : IsStep levels r.numbers.items s
    step_is = record {
      count = h.count;
      has = (let k = level_inside I low.above levels low.are b low.has in
          let n = ap (slice_index levels) e in
          omega (arith, k, n));
      child = subst (λ (b : ℕ). AreOfChild levels b r.numbers.items) (sym e) (raised_child I levels b r low h done);
      noted = λ c i. some_within levels c.0 (h.some c (subst (IsIn c) q i));
      under = λ c. (let k = under_each levels top led.under c in omega (arith, k, t));
      limit = (let k = led.limit in omega (arith, k, t));
    }

    pub trail_below : (others : List ℕ) (steps : List Step) → IsSwitched left b false others →
        AreSteps levels (reverse steps) → IsTrail r.numbers.items others r.top (steps ++ s ∷ [])
    trail_below others steps sw down = record {
      led = record {
        few = (let n = h.count in let k = led.few in omega (arith, n, k));
        low = all_under r.numbers.items (2 ^ 55)
            (λ c. (let k = h.under c in let m = h.limit in omega (arith, k, m)));
        under = all_under r.numbers.items r.top h.under;
        limit = h.limit;
        listed = child_left levels r.numbers.items left others b (raised_child I levels b r low h done) led.listed sw;
      };
      down = subst (AreSteps r.numbers.items) (sym (last_first steps s))
          (subst (λ (xs : List ℕ). IsStep xs r.numbers.items s × AreSteps xs (reverse steps)) (sym before_is)
          (step_is, down));
    }

pub above_below : (numbers levels : List ℕ) (steps : List Step) (s : Step) → before numbers s ≡ levels →
    all_before numbers (reverse (steps ++ s ∷ [])) ≡ levels ∷ all_before levels (reverse steps)
above_below numbers levels steps s q = ap (all_before numbers) (last_first steps s)
    ∙ ap (λ (xs : List ℕ). xs ∷ all_before xs (reverse steps)) q

-- ---- the way up
-- the last step is the one that is taken off
pub last_is : (steps rest : List Step) (s t : Step) → steps ≡ rest ++ s ∷ [] →
    Some t ≡ slice_get steps (length steps - 1) → t ≡ s
last_is steps rest s t q h =
    let n : length steps ≡ length rest + 1 = ap length q ∙ length-append rest (s ∷ []) in
    let m : length (rest ++ s ∷ []) ≡ length rest + 1 = length-append rest (s ∷ []) in
    let e : length steps - 1 ≡ length rest + 0 = omega (arith, n) in
    let k : Some t ≡ slice_get (rest ++ s ∷ []) (length rest + 0) =
    h ∙ ap (slice_get steps) e ∙ ap (λ (ss : List Step). slice_get ss (length rest + 0)) q in
    let r : Some t ≡ Some s = k
    ∙ slice_get-get_or (rest ++ s ∷ []) (length rest + 0) s (omega (arith, m))
    ∙ ap (λ (x : Step). Some x) (get_or-append-add rest (s ∷ []) 0 s) in
    cc

module _ (levels left : List ℕ) (top : ℕ) (steps rest : List Step) (s : Step) (q : steps ≡ rest ++ s ∷ [])
    (h : IsTrail levels left top steps) where
  last_down : IsStep (before levels s) levels s × AreSteps (before levels s) (reverse rest)
  last_down = subst (AreSteps levels) (ap reverse q ∙ last_first rest s) h.down

  pub changes_within : (e : Entry) → IsIn e s.changes.items → e.0 < length levels
  changes_within e i = let k = last_down.0.noted e i in let n = last_down.0.count in omega (arith, k, n)

  pub trail_above : (new others : List ℕ) → new ≡ before levels s → IsSwitched left s.buffer true others →
      IsTrail new others s.top rest
  trail_above new others e sw = subst (λ (xs : List ℕ). IsTrail xs others s.top rest) (sym e) (record {
    led = record {
      few = (let n = last_down.0.count in let k = h.led.few in omega (arith, n, k));
      low = all_under (before levels s) (2 ^ 55)
          (λ c. (let k = last_down.0.under c in let m = last_down.0.limit in omega (arith, k, m)));
      under = all_under (before levels s) s.top last_down.0.under;
      limit = last_down.0.limit;
      listed = claim_left (before levels s) levels others left s.buffer last_down.0.child last_down.0.has h.led.listed
          sw;
    };
    down = last_down.1;
  })
