-- Sections that stand for moments.
use Rattle.std.proofs.Common.{◌≡◌, ◌≢◌, ℕ, zero, suc, ◌<◌, ◌≤◌, ◌⊎◌, inl, inr, List, [], length, slice_index_or, refl, sym, ap, ◌∙◌, arith}
use Rattle.std.specs.List.{All, sum_by}
use Rattle.dsa_terms.specs.Buffers.{Instance, IsLive, buffer}
use Rattle.dsa_terms.specs.Claims.{IsIn}
use Rattle.dsa_terms.specs.Plans.{IsPeak, load}
use Rattle.dsa_terms.proofs.Lists.{from_map, into_map}
use Rattle.dsa_terms.proofs.Places.{place_of}
use Rattle.dsa_terms.proofs.NumberTests.{below_or_from}
use Rattle.dsa_model.specs.Buffer.{IsBuffer}
use Rattle.lifetime.specs.Runs.{ArePlainRuns, BeginsRun}
use Rattle.lifetime.specs.SectionList.{Section, SectionList, count_of, live_at, no_section, members_of, start_of}
use Rattle.lifetime.specs.Thin.{AreAmong, IsThinnedTo, IsBetween, StandForAll, StandsFor, StandsIn}
use Rattle.lifetime.proofs.Among.{equal_or_less}
use Rattle.lifetime.proofs.Lists.{same_or_not}
use Rattle.lifetime.proofs.Live.{before_suc, before_zero, from_live, into_live, not_nil, rises_live, size_positive}
use Rattle.lifetime.proofs.Loads.{load_is}

pub between_ends : (t u : ℕ) → IsBetween t u t
between_ends t u = elim (either t u) [ inl le ↦ inl (omega arith, le) | inr le ↦ inr (le, omega arith) ]
  where
    either : (t u : ℕ) → (t ≤ u) ⊎ (u ≤ t)
    either t u = grind arith

-- a moment that has all that is live at the peak, and more if it is later, is the peak
pub peak_own : (I : Instance) (t u : ℕ) → All IsBuffer I → IsPeak I t → AreAmong (live_at I t) (live_at I u) →
    (t < u → live_at I t ≢ live_at I u) → u ≡ t
peak_own I t u sound p among more = at (which t u)
  where
    which : (m n : ℕ) → (m < n) ⊎ ((m ≡ n) ⊎ (n < m))
    which m n = grind arith

    weight : ℕ → ℕ
    weight b = (buffer I b).size

    same : live_at I t ≡ live_at I u
    same = elim (equal_or_less (λ b. (buffer I b).size) (live_at I t) (live_at I u) (rises_live I t) (rises_live I u)
        among (λ b i. size_positive I b sound (from_live I u b i).0)) [
          | inl e ↦ e
          | inr less ↦ absurd (let k = p.most u in let a = load_is I t in let b = load_is I u in omega arith)
        ]

    at : (t < u) ⊎ ((t ≡ u) ⊎ (u < t)) → u ≡ t
    at (inl lt) = absurd (more lt same)
    at (inr (inl e)) = sym e
    at (inr (inr lt)) =
        let k = p.earliest u lt in
        let e : load I t ≡ load I u = load_is I t ∙ (ap (sum_by (λ b. (buffer I b).size)) same ∙ sym (load_is I u)) in
        absurd (omega arith)

-- ---- the run of a moment
-- r is where the run begins that has moment t
record IsRunOf (I : Instance) (t r : ℕ) : Type 0 where
  before : r ≤ t
  begins : BeginsRun I r
  same : live_at I r ≡ live_at I t
  none : (u : ℕ) → r < u → u ≤ t → BeginsRun I u → ⊥

run_of : (I : Instance) (t : ℕ) → live_at I t ≢ [] → (r : ℕ) × IsRunOf I t r
run_of I zero n = (
  0,
  record {
    before = omega arith;
    begins = record { something = n; changed = λ e. n (e ∙ before_zero I) };
    same = refl;
    none = λ u low high. absurd (omega arith);
  },
)
run_of I (suc t) n = go (run_of I t) (same_or_not (live_at I (suc t)) (live_at I t))
  where
    cases : (u t : ℕ) → u ≤ suc t → (u ≤ t) ⊎ (u ≡ suc t)
    cases u t h = grind arith

    go : (live_at I t ≢ [] → (r : ℕ) × IsRunOf I t r) →
        (live_at I (suc t) ≡ live_at I t) ⊎ (live_at I (suc t) ≢ live_at I t) → (r : ℕ) × IsRunOf I (suc t) r
    go ih (inl e) =
        let q = ih (λ f. n (e ∙ f)) in (
          q.0,
          record {
            before = (let k = q.1.before in omega arith);
            begins = q.1.begins;
            same = q.1.same ∙ sym e;
            none = λ u low high. elim (cases u t high) [
              | inl le ↦ q.1.none u low le
              | inr f ↦ (λ h. h.changed (rw f (e ∙ sym (before_suc I t))))
            ];
          },
        )
    go ih (inr m) = (
      suc t,
      record {
        before = omega arith;
        begins = record { something = n; changed = λ e. m (e ∙ before_suc I t) };
        same = refl;
        none = λ u low high. absurd (omega arith);
      },
    )

-- ---- what is kept of the runs stands for all moments
module _ (I : Instance) (runs : List Section) (S : SectionList) (plain : ArePlainRuns I runs)
    (kept : IsThinnedTo runs S.sections) where
  pub begin_at : (x : Section) → IsIn x runs → BeginsRun I x.start
  begin_at x i = (plain.runs x.start).0 (into_map (λ (y : Section). y.start) runs x i)

  run_from : (t : ℕ) → BeginsRun I t → (x : Section) × IsIn x runs × (x.start ≡ t)
  run_from t h =
      let r = from_map (λ (y : Section). y.start) runs t ((plain.runs t).1 h) in
      (r.0, r.1, sym r.2)

  members_are : (x : Section) (r t : ℕ) → IsIn x runs → x.start ≡ r → live_at I r ≡ live_at I t →
      x.members ≡ live_at I t
  members_are x r t i e f = plain.each x i ∙ (ap (live_at I) e ∙ f)

  -- the runs of two moments lie as these do
  same_order : (t u r q : ℕ) → IsRunOf I t r → IsRunOf I u q → t ≤ u → r ≤ q
  same_order t u r q a b le = elim (below_or_from q r) [
    | inl lt ↦ absurd (b.none r lt (let k = a.before in omega arith) a.begins)
    | inr ge ↦ ge
  ]

  own_run : (t : ℕ) → BeginsRun I t → IsRunOf I t t
  own_run t h = record {
    before = omega arith;
    begins = h;
    same = refl;
    none = λ u low high. absurd (omega arith);
  }

  between_runs : (t s u r q : ℕ) → IsRunOf I t r → BeginsRun I s → IsRunOf I u q → IsBetween t s u → IsBetween r s q
  between_runs t s u r q a b c (inl h) = inl
      (same_order t u r q a c h.0, same_order u s q s c (own_run s b) h.1)
  between_runs t s u r q a b c (inr h) = inr
      (same_order s u s q (own_run s b) c h.0, same_order u t q r c a h.1)

  stands : (t r s : ℕ) (x k : Section) → IsRunOf I t r → IsIn x runs → x.start ≡ r → IsIn k runs →
      StandsIn runs x k → s < count_of S → slice_index_or S.sections s no_section ≡ k → StandsFor I S s t
  stands t r s x k run i e j f lt at = record {
    in_range = lt;
    has_all = has_all;
    more = λ less eq. f.more (let b = run.before in let c = starts in let d = e in omega arith)
        (λ b j. rw (members_are x r t i e run.same, eq, has) j);
  }
    where
      has : members_of S s ≡ k.members
      has = ap (λ (y : Section). y.members) at

      starts : start_of S s ≡ k.start
      starts = ap (λ (y : Section). y.start) at

      has_all : (u b : ℕ) → IsBetween t (start_of S s) u → b < length I → IsLive (buffer I b) u →
          IsIn b (members_of S s)
      has_all u b between bn h =
          let q = run_of I u (not_nil (live_at I u) b (into_live I u b bn h)) in
          let y = run_from q.0 q.1.begins in
          rw has (f.has_all y.0 y.1
          (rw (e, y.2) (between_runs t k.start u r q.0 run (begin_at k j) q.1 (rw starts at between))) b
          (rw (members_are y.0 q.0 u y.1 y.2 q.1.same) (into_live I u b bn h)))

  pub stand_for_all : StandForAll I S
  stand_for_all t b bn h =
      let r = run_of I t (not_nil (live_at I t) b (into_live I t b bn h)) in
      let x = run_from r.0 r.1.begins in
      let k = kept.stand x.0 x.1 in
      let s = place_of S.sections k.0 no_section k.1 in
      (s.0, stands t r.0 s.0 x.0 k.0 r.1 x.1 x.2 (kept.chosen k.0 k.1) k.2 s.1 s.2)
