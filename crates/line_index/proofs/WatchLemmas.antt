-- Lines that are watched at the levels of a claim, and what becomes of their watches.
use Rattle.std.proofs.Common.{◌≡◌, ◌≢◌, ℕ, ◌^◌, ◌<◌, ◌≤◌, inl, inr, List, ◌++◌, length, length-append, slice_get, slice_index, slice_set, Some, sym, ap, ◌∙◌, subst, refl, arith}
use Rattle.std.proofs.lemmas.List.{get_or_past, get_or-set_other, get_or-set_same, length-set}
use Rattle.std.proofs.lemmas.Option.{slice_get-get_or, slice_get_past, slice_get_within}
use Rattle.dsa_terms.specs.Buffers.{Instance}
use Rattle.dsa_terms.specs.Claims.{Claim, Entry, IsIn}
use Rattle.dsa_terms.specs.Logs.{Line, claim_of}
use Rattle.canonical_order.specs.Levels.{AreLevels}
use Rattle.dsa_terms.proofs.NumberTests.{below_or_from, same_or_not}
use Rattle.line_index.specs.declared.watch_row.Mark.{Mark}
use Rattle.line_index.specs.Covered.{IsCoveredBy, NoneCovers}
use Rattle.line_index.specs.Looks.{IsLacked, IsUnmet}
use Rattle.line_index.specs.Watches.{AreNoted, AreRaised, AreWatched, Fails, HasLevels, LineWatches, RulesOut}
use Rattle.line_index.specs.Watching.{AreMoved, AreOwnMoved, FailAt, IsWatched}
use Rattle.refute_log.proofs.Legal.{get_before}
use Rattle.line_index.proofs.Meeting.{is_met, meets}

-- ---- what watched lines say
pub watched_none : (I : Instance) (lines : List Line) (watches : LineWatches) (l : Claim) (levels : List ℕ) →
    AreLevels I l levels → AreWatched lines watches levels (length lines) → NoneCovers I lines l
watched_none I lines watches l levels h w k line at covers =
    let r = w.each k line (slice_get_within lines k line at) at in
    let met : r.0.1 < slice_index levels r.0.0 = is_met I l _ h _ (covers r.0 r.2.among) in
    let le : slice_index levels r.0.0 ≤ r.0.1 = r.2.unmet (λ f i.
    (let z : f.1 < slice_index levels f.0 = is_met I l _ h f (covers f i) in omega arith)) in
    absurd (omega arith)

pub noted_more : (lines more : List Line) (rows : List (List Mark)) → AreNoted lines rows →
    AreNoted (lines ++ more) rows
noted_more lines more rows h p m i =
    let r = h p m i in
    record {
      line = r.line;
      stands = get_before lines more m.line (slice_get_within lines m.line r.line r.stands) ∙ r.stands;
      has = r.has;
    }

pub watched_more : (lines more : List Line) (watches : LineWatches) (levels : List ℕ) (n : ℕ) →
    AreWatched lines watches levels n → AreWatched (lines ++ more) watches levels n
watched_more lines more watches levels n w = record {
  within = (let le = w.within in let q = length-append lines more in omega arith);
  each = λ k line lt at. w.each k line lt
      (sym (get_before lines more k (let le = w.within in omega arith)) ∙ at);
}

pub raised_refl : (levels : List ℕ) → AreRaised levels levels
raised_refl levels b lt = (lt, omega arith)

pub raised_trans : (xs ys zs : List ℕ) → AreRaised xs ys → AreRaised ys zs → AreRaised xs zs
raised_trans xs ys zs h k b lt =
    let q = k b lt in
    let p = h b q.0 in (
      p.0,
      (let x : slice_index xs b ≤ slice_index ys b = p.1 in let y : slice_index ys b ≤ slice_index zs b = q.1 in
          omega arith),
    )

-- all bounds of the line are met
pub covered_by_levels : (I : Instance) (l : Claim) (levels : List ℕ) (lines : List Line) (k : ℕ) (line : Line) →
    k ≤ 2 ^ 60 → slice_get lines k ≡ Some line →
    ((e : Entry) → IsIn e (claim_of line) → e.1 < slice_index levels e.0) → AreLevels I l levels →
    IsCoveredBy I lines l k
covered_by_levels I l levels lines k line le at met h =
    record { limit = le; line = line; stands = at; covers = λ e i. meets I l _ h e (met e i) }

-- ---- what a bound rules out
pub unmet_rules_out : (above levels : List ℕ) (k : Claim) (e : Entry) → AreRaised above levels → IsUnmet k levels e →
    RulesOut above k e
unmet_rules_out above levels k e h u = record {
  among = u.among;
  unmet = λ _. (let p : slice_index above e.0 ≤ slice_index levels e.0 = (h e.0 u.has).1 in let q = u.unmet in
      omega arith);
}

pub lacked_rules_out : (levels : List ℕ) (k : Claim) (e f : Entry) → IsLacked k levels f → IsIn e k →
    RulesOut levels k e
lacked_rules_out levels k e f lacked i = record {
  among = i;
  unmet = λ has. absurd (let lt : 0 < slice_index levels f.0 = has f lacked.among in let z = lacked.none in
      omega arith);
}

pub lacked_fails : (levels : List ℕ) (k : Claim) (e f : Entry) → IsLacked k levels f → Fails levels k e
lacked_fails levels k e f lacked has =
    absurd (let lt : 0 < slice_index levels f.0 = has f lacked.among in let z = lacked.none in omega arith)

-- ---- one watch more, or another
pub get_set_same : {X : Type 0} (xs : List X) (k : ℕ) (x : X) → k < length xs → slice_get (slice_set xs k x) k ≡ Some x
get_set_same xs k x lt =
    let le : k < length (slice_set xs k x) = (let q = length-set xs k x in omega arith) in
    slice_get-get_or (slice_set xs k x) k x le ∙ ap Some (get_or-set_same xs k x x lt)

pub get_set_other : {X : Type 0} (xs : List X) (k j : ℕ) (x : X) → j ≢ k →
    slice_get (slice_set xs k x) j ≡ slice_get xs j
get_set_other xs k j x ne = elim (below_or_from j (length xs)) [
  | inl lt ↦
      let le : j < length (slice_set xs k x) = (let q = length-set xs k x in omega arith) in
      slice_get-get_or (slice_set xs k x) j x le ∙ ap Some (get_or-set_other xs k j x x ne)
      ∙ sym (slice_get-get_or xs j x lt)
  | inr le ↦
      slice_get_past (slice_set xs k x) j (let q = length-set xs k x in omega arith) ∙ sym (slice_get_past xs j le)
]

same_line : (lines : List Line) (j k : ℕ) (x line : Line) → slice_get lines j ≡ Some x →
    slice_get lines k ≡ Some line → j ≡ k → line ≡ x
same_line lines j k x line at stands q = some_is (sym stands ∙ ap (slice_get lines) (sym q) ∙ at)
  where
    some_is : Some line ≡ Some x → line ≡ x
    some_is e = cc

module _ (lines : List Line) (levels : List ℕ) where
  pub moved_refl : (xs : List Entry) → AreMoved lines levels xs xs
  moved_refl xs k line at = inl refl

  pub moved_trans : (xs ys zs : List Entry) → AreMoved lines levels xs ys → AreMoved lines levels ys zs →
      AreMoved lines levels xs zs
  moved_trans xs ys zs h k n line at = elim (k n line at) [
    | inr u ↦ inr u
    | inl q ↦ elim (h n line at) [ inl p ↦ inl (q ∙ p) | inr u ↦ inr (u.0, q ∙ u.1, u.2) ]
  ]

  pub moved_set : (xs : List Entry) (k : ℕ) (line : Line) (e : Entry) → slice_get lines k ≡ Some line →
      k < length xs → IsUnmet (claim_of line) levels e → AreMoved lines levels xs (slice_set xs k e)
  moved_set xs k line e stands lt u j x at = elim (same_or_not j k) [
    | inr ne ↦ inl (get_set_other xs k j e ne)
    | inl q ↦ inr (
      e,
      ap (slice_get (slice_set xs k e)) q ∙ get_set_same xs k e lt,
      subst (λ (x : Line). IsUnmet (claim_of x) levels e) (same_line lines j k x line at stands q) u,
    )
  ]

  pub own_of_moved : (xs ys : List Entry) → AreMoved lines levels xs ys → AreOwnMoved lines levels xs ys
  own_of_moved xs ys h k line e at stands i = elim (h k line at) [ inl q ↦ inl (q ∙ stands) | inr u ↦ inr u ]

  pub own_trans : (xs ys zs : List Entry) → AreOwnMoved lines levels xs ys → AreOwnMoved lines levels ys zs →
      AreOwnMoved lines levels xs zs
  own_trans xs ys zs h g k line e at is i = elim (h k line e at is i) [
    | inl same ↦ g k line e at same i
    | inr u ↦ elim (g k line u.0 at u.1 u.2.among) [ inl same ↦ inr (u.0, same, u.2) | inr v ↦ inr v ]
  ]

  pub watched_still : (xs ys : List Entry) (k : ℕ) → AreOwnMoved lines levels xs ys → IsWatched lines xs levels k →
      IsWatched lines ys levels k
  watched_still xs ys k h w line at =
      let r = w line at in
      elim (h k line r.0 at r.1 r.2.among) [
        | inl same ↦ (r.0, same, r.2)
        | inr u ↦ (u.0, u.1, unmet_rules_out levels levels (claim_of line) u.0 (raised_refl levels) u.2)
      ]

  -- a watch that was no entry of its line's claim may become any
  pub own_set : (xs : List Entry) (k : ℕ) (line : Line) (e old : Entry) → slice_get lines k ≡ Some line →
      slice_get xs k ≡ Some old → (IsIn old (claim_of line) → ⊥) → AreOwnMoved lines levels xs (slice_set xs k e)
  own_set xs k line e old stands had foreign j x f at is i = elim (same_or_not j k) [
    | inr ne ↦ inl (get_set_other xs k j e ne ∙ is)
    | inl q ↦ absurd (foreign (subst (λ (x : Line). IsIn old (claim_of x))
        (sym (same_line lines j k x line at stands q))
        (subst (λ (g : Entry). IsIn g (claim_of x)) (same (sym is ∙ ap (slice_get xs) q ∙ had)) i)))
  ]
    where
      same : Some f ≡ Some old → f ≡ old
      same e = cc

  pub watched_by : (xs : List Entry) (k : ℕ) (line : Line) (e : Entry) → slice_get lines k ≡ Some line →
      slice_get xs k ≡ Some e → RulesOut levels (claim_of line) e → IsWatched lines xs levels k
  watched_by xs k line e stands at out x is =
      (e, at, subst (λ (x : Line). RulesOut levels (claim_of x) e) (same_line lines k k x line is stands refl) out)

  pub fail_still : (xs ys : List Entry) (b low : ℕ) → AreMoved lines levels xs ys → FailAt lines xs levels b low →
      FailAt lines ys levels b low
  fail_still xs ys b low h f k line e at stands q from below = elim (h k line at) [
    | inl same ↦ f k line e at (sym same ∙ stands) q from below
    | inr u ↦ subst (Fails levels (claim_of line)) (same (sym u.1 ∙ stands)) (λ has. u.2.unmet)
  ]
    where
      same : {x y : Entry} → Some x ≡ Some y → x ≡ y
      same e = cc

  -- all lines were watched at the claim above, and each watch whose bound is met now fails
  pub all_watched : (before : List ℕ) (old new : LineWatches) (n : ℕ) → length levels ≤ n →
      AreMoved lines levels old.entries new.entries →
      ((b : ℕ) → b < n → FailAt lines new.entries levels b (slice_index before b)) → AreRaised before levels →
      AreWatched lines old before (length lines) → AreWatched lines new levels (length lines)
  all_watched before old new n le h fail raised w = record {
    within = w.within;
    each = λ k line lt at.
        (let r = w.each k line lt at in elim (h k line at) [
          | inl q ↦ (r.0, q ∙ r.1, record { among = r.2.among; unmet = unmet k line r.0 at (q ∙ r.1) r.2 })
          | inr u ↦ (u.0, u.1, record { among = u.2.among; unmet = λ _. u.2.unmet })
        ]);
  }
    where
      unmet : (k : ℕ) (line : Line) (e : Entry) → slice_get lines k ≡ Some line →
          slice_get new.entries k ≡ Some e → RulesOut before (claim_of line) e → HasLevels levels (claim_of line) →
          slice_index levels e.0 ≤ e.1
      unmet k line e at stands out has = elim (below_or_from e.1 (slice_index levels e.0)) [
        | inr from ↦ from
        | inl below ↦ elim (below_or_from e.0 n) [
          | inl lt ↦ fail e.0 lt k line e at stands refl (out.unmet (λ f i. (raised f.0 (has f i)).0)) below has
          | inr past ↦ absurd (let z : slice_index levels e.0 ≡ 0 = get_or_past levels e.0 0 (omega arith) in
              omega arith)
        ]
      ]

  -- what was asked before stays watched, and the lines from n on were asked now
  pub watched_from : (old now : LineWatches) (n : ℕ) → AreOwnMoved lines levels old.entries now.entries →
      ((k : ℕ) → n ≤ k → k < length lines → IsWatched lines now.entries levels k) →
      AreWatched lines old levels n → AreWatched lines now levels (length lines)
  watched_from old now n moved new w = record {
    within = omega arith;
    each = λ k line lt at.
        (elim (below_or_from k n) [
          | inr from ↦ new k from lt line at
          | inl below ↦
              let r = w.each k line below at in
              elim (moved k line r.0 at r.1 r.2.among) [
                | inl same ↦ (r.0, same, r.2)
                | inr u ↦ (u.0, u.1, record { among = u.2.among; unmet = λ _. u.2.unmet })
              ]
        ]);
  }

  -- at a claim above, what was watched stays so
  pub kept_above : (above : List ℕ) (old now : LineWatches) (n : ℕ) → AreRaised above levels →
      AreOwnMoved lines levels old.entries now.entries → AreWatched lines old above n → AreWatched lines now above n
  kept_above above old now n raised moved w = record {
    within = w.within;
    each = λ k line lt at.
        (let r = w.each k line lt at in elim (moved k line r.0 at r.1 r.2.among) [
          | inl same ↦ (r.0, same, r.2)
          | inr u ↦ (u.0, u.1, unmet_rules_out above levels (claim_of line) u.0 raised u.2)
        ]);
  }
