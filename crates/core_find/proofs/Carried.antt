-- A log that is carried over to fewer buffers is accepted for these.
use Rattle.std.proofs.Common.{◌≡◌, ℕ, ◌<◌, ◌⊎◌, inl, inr, List, [], ◌∷◌, length, map, slice_get, slice_index, take, Some, ◌+◌, refl, sym, ap, ◌∙◌, subst, arith}
use Rattle.std.proofs.lemmas.List.{get_or-map, length-map, take-map}
use Rattle.std.proofs.lemmas.List.FromFn.{get_or-range_with_len}
use Rattle.dsa_terms.specs.Buffers.{Instance, buffer}
use Rattle.dsa_terms.specs.Claims.{Claim, Entry, IsIn, IsWhole, Rises, buffers_of}
use Rattle.dsa_terms.specs.Logs.{IsAccepted, IsLegal, Line, Log, claim_of}
use Rattle.dsa_terms.specs.Parts.{numbers}
use Rattle.dsa_trim_laws.specs.Trimmed.{trimmed}
use Rattle.dsa_terms.proofs.Lists.{from_map, into_map, same_some}
use Rattle.dsa_terms.proofs.Places.{get_map}
use Rattle.dsa_terms.proofs.Ranges.{rises-range}
use Rattle.dsa_trim_laws.proofs.Picked.{of_get_map}
use Rattle.dsa_trim_laws.proofs.Trims.{trimmed_is_accepted}
use Rattle.dsa_model.specs.Chosen.{some_of}
use Rattle.core_find.specs.Carried.{IsEnd, NeedsOnly, carried, named, place_among, places_among, renamed_line}
use Rattle.core_find.specs.Cores.{AreAmong}
use Rattle.core_find.proofs.Renamed.{AreRenamed, IsOf, claim_of-renamed, legal_renamed, whole_renamed}
use Rattle.core_find.proofs.Some.{at_place, rises_at, some_at, some_in, some_of_all}
use Rattle.core_find.proofs.Within.{kept_names}

-- ---- places among the members rise as the members do
places_rise : (ms : List ℕ) (b c : ℕ) → Rises ms → IsIn b ms → IsIn c ms → b < c → place_among b ms < place_among c ms
places_rise ms b c r i j lt = go (cases (place_among b ms) (place_among c ms))
  where
    cases : (p q : ℕ) → (p < q) ⊎ ((q < p) ⊎ (p ≡ q))
    cases p q = grind arith

    go : (place_among b ms < place_among c ms)
        ⊎ ((place_among c ms < place_among b ms) ⊎ (place_among b ms ≡ place_among c ms)) →
        place_among b ms < place_among c ms
    go (inl less) = less
    go (inr (inl more)) =
        let x = (at_place b ms i).1 in
        let y = (at_place c ms j).1 in
        let gt = rises_at ms (place_among c ms) (place_among b ms) r more (at_place b ms i).0 in
        absurd (omega arith)
    go (inr (inr e)) =
        let same : b ≡ c = sym (at_place b ms i).1 ∙ ap (slice_index ms) e ∙ (at_place c ms j).1 in
        absurd (omega arith)

place_of_number : (before members : List ℕ) (b : ℕ) → b < length before →
    slice_index (places_among before members) b ≡ place_among (slice_index before b) members
place_of_number before members b lt = get_or-map (λ b. place_among b members) before b 0 0 lt

-- the buffers of a claim of those before that names members alone have places among these
are_renamed : (I : Instance) (before members : List ℕ) (l : Claim) → Rises before → Rises members →
    ((e : Entry) → IsIn e l → e.0 < length before) → AreAmong (named before l) members →
    AreRenamed (some_of I before) (some_of I members) (buffers_of l) (slice_index (places_among before members))
are_renamed I before members l old new within among = record {
  alike = λ b i. let k = known b i in rw (place_of_number before members b k.0)
      (some_in I members (slice_index before b) k.1 ∙ sym (some_at I before b k.0));
  there = λ b i. let k = known b i in rw (place_of_number before members b k.0, length-map members (buffer I))
      (at_place (slice_index before b) members k.1).0;
  rise = λ b c i j lt. let k = known b i in let m = known c j in
      rw (place_of_number before members b k.0, place_of_number before members c m.0)
      (places_rise members (slice_index before b) (slice_index before c) new k.1 m.1 (rises_at before b c old lt m.0));
}
  where
    known : (b : ℕ) → IsIn b (buffers_of l) → (b < length before) × IsIn (slice_index before b) members
    known b i =
        let e = from_map (λ (e : Entry). e.0) l b i in
        subst (λ c. (c < length before) × IsIn (slice_index before c) members) (sym e.2)
        (within e.0 e.1, among (slice_index before e.0.0) (into_map (λ (e : Entry). slice_index before e.0) l e.0 e.1))

-- ---- the law
module _ (I : Instance) (before members : List ℕ) (log : Log) (rises : Rises members)
    (needs : NeedsOnly I before members log) where
  abbrev J : Instance
  J = some_of I before

  abbrev K : Instance
  K = some_of I members

  abbrev last : Line
  last = needs.accepted.whole.0

  abbrev to : ℕ → ℕ
  to = slice_index (places_among before members)

  are : AreRenamed J K (buffers_of (claim_of last)) to
  are =
      let end = needs.accepted.whole.1 in
      are_renamed I before members (claim_of last) needs.rise rises
      (λ e i. rw (← length-map before (buffer I)) ((needs.accepted.legal log.final last end).claim.in_range e i))
      (needs.names last end)

  is_of : (k : ℕ) (line : Line) → slice_get (trimmed log).lines k ≡ Some line →
      IsOf (buffers_of (claim_of last)) (claim_of line)
  is_of k line at e i =
      kept_names J log last needs.accepted needs.accepted.whole.1 k line at e.0
      (into_map (λ (e : Entry). e.0) (claim_of line) e i)

  legal_there : (k : ℕ) (line : Line) → slice_get (map (renamed_line to) (trimmed log).lines) k ≡ Some line →
      IsLegal K (trimmed log).capacity (take k (map (renamed_line to) (trimmed log).lines)) line
  legal_there k line at =
      let x = of_get_map (renamed_line to) (trimmed log).lines k line at in
      rw (take-map (renamed_line to) k (trimmed log).lines, ← x.2)
      (legal_renamed J K (buffers_of (claim_of last)) to are (trimmed log).capacity (take k (trimmed log).lines) x.0
      (is_of k x.0 x.1) ((trimmed_is_accepted J log needs.accepted).legal k x.0 x.1))

  whole_there : (line : Line) × (slice_get (map (renamed_line to) (trimmed log).lines) (trimmed log).final ≡ Some line)
      × IsWhole K (claim_of line)
  whole_there =
      let w = (trimmed_is_accepted J log needs.accepted).whole in (
        renamed_line to w.0,
        get_map (renamed_line to) (trimmed log).lines (trimmed log).final w.0 w.1,
        rw (claim_of-renamed to w.0)
            (whole_renamed J K (buffers_of (claim_of last)) to are (claim_of w.0)
            (is_of (trimmed log).final w.0 w.1) w.2),
      )

  pub carried_is_accepted : IsAccepted K (carried before members log)
  unfolding carried
  carried_is_accepted = record {
    same_count = sym (length-map members (buffer I));
    legal = legal_there;
    whole = whole_there;
  }

pub carried_capacity : (before members : List ℕ) (log : Log) → (carried before members log).capacity ≡ log.capacity
unfolding carried trimmed
carried_capacity before members log = refl

-- ---- from all buffers
pub named_numbers : (n : ℕ) (l : Claim) → ((e : Entry) → IsIn e l → e.0 < n) → named (numbers n) l ≡ buffers_of l
named_numbers n [] h = refl
named_numbers n (e ∷ l) h =
    let first : slice_index (numbers n) e.0 ≡ e.0 = get_or-range_with_len 0 n e.0 0 (h e (inl refl)) ∙ plus e.0 in
    rw (first, named_numbers n l (λ f i. h f (inr i))) refl
  where
    plus : (b : ℕ) → 0 + b ≡ b
    plus b = omega arith

pub carried_from_all : (I : Instance) (members : List ℕ) (log : Log) (end : Line) → Rises members →
    IsAccepted I log → IsEnd log end → AreAmong (buffers_of (claim_of end)) members →
    IsAccepted (some_of I members) (carried (numbers (length I)) members log)
carried_from_all I members log end r a at among =
    carried_is_accepted I (numbers (length I)) members log r record {
      rise = rises-range (length I) 0;
      accepted = subst (λ (J : Instance). IsAccepted J log) (sym (some_of_all I)) a;
      names = λ line is. let same : end ≡ line = same_some (sym at ∙ is) in
          subst (λ (xs : List ℕ). AreAmong xs members)
          (sym (named_numbers (length I) (claim_of line) (a.legal log.final line is).claim.in_range))
          (subst (λ (x : Line). AreAmong (buffers_of (claim_of x)) members) same among);
    }
