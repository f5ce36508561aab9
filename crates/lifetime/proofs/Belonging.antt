-- Sections that start where runs begin, and stand for all moments, belong to the instance.
use Rattle.std.proofs.Common.{◌≡◌, ◌≢◌, ℕ, zero, suc, ◌^◌, ◌<◌, ◌⊎◌, ◌↔◌, inl, inr, List, [], ◌∷◌, length, map, filter, slice_index_or, refl, sym, ap, ◌∙◌, arith}
use Rattle.std.proofs.lemmas.List.{length-map}
use Rattle.std.proofs.lemmas.List.FromFn.{get_or-map-range_with_len, length-map-range_with_len}
use Rattle.std.specs.Global.{Vec}
use Rattle.std.specs.List.{All, sum_by}
use Rattle.dsa_terms.specs.Buffers.{Instance, IsLive, Share, buffer, is_live}
use Rattle.dsa_terms.specs.Claims.{IsIn, Rises}
use Rattle.dsa_terms.specs.Parts.{numbers}
use Rattle.dsa_terms.specs.Plans.{IsPeak, load}
use Rattle.dsa_terms.proofs.Lists.{from_filter, into_filter, nil_or_not}
use Rattle.dsa_terms.proofs.Places.{all_from_in, in_at}
use Rattle.dsa_terms.proofs.Ranges.{below, among}
use Rattle.dsa_model.specs.Buffer.{IsBuffer}
use Rattle.dsa_model.specs.Lists.{items_of}
use Rattle.lifetime.specs.Edges.{has_member, places_of}
use Rattle.lifetime.specs.Places.{AreMembersBelow, HasMembersBelow}
use Rattle.lifetime.specs.Runs.{AreRuns, BeginsRun, starts_of}
use Rattle.lifetime.specs.SectionList.{AreSectionsOf, HasAllAt, AreKeptSections, Section, SectionList, ShareSection, count_of, live_at, members_of, no_section, sections_of, start_of}
use Rattle.lifetime.specs.Thin.{AreAmong, AreThinRuns, StandForAll, StandsFor}
use Rattle.lifetime.specs.Views.{list_of, section_of}
use Rattle.lifetime.specs.declared.section_list.Section.{Section as Declared}
use Rattle.lifetime.proofs.Lists.{filter_same, rises-numbers, rises_at}
use Rattle.lifetime.proofs.Live.{into_live, rises_live}
use Rattle.lifetime.proofs.Loads.{load_is, load_positive}
use Rattle.lifetime.proofs.Switching.{has_is}
use Rattle.lifetime.proofs.Standing.{begin_at, between_ends, peak_own, stand_for_all}
pub use Rattle.lifetime.proofs.Live.{from_live}

-- ---- the members of the sections
pub members_below : (I : Instance) (sections : List Section) →
    ((x : Section) → IsIn x sections → x.members ≡ live_at I x.start) → AreMembersBelow (length I) sections
members_below I sections h = all_from_in (HasMembersBelow (length I)) sections (λ x i. record {
  rises = rw (h x i) (rises_live I x.start);
  in_range = all_from_in (λ b. b < length I) x.members (λ b j. (from_live I x.start b (rw (h x i) at j)).0);
})

-- what belongs, from what the runs, the thinning and the lists of places give
pub record IsMade (I : Instance) (S : SectionList) : Type 0 where
  pub sound : All IsBuffer I
  pub each : (x : Section) → IsIn x S.sections → x.members ≡ live_at I x.start
  pub rise : Rises (starts_of S.sections)
  pub begin : (x : Section) → IsIn x S.sections → BeginsRun I x.start
  pub stand : StandForAll I S
  pub places : S.of_buffers ≡ map (places_of S.sections) (numbers (length I))

module _ (I : Instance) (S : SectionList) (m : IsMade I S) where
  start_at : (xs : List Section) (s : ℕ) → slice_index_or (starts_of xs) s 0 ≡ (slice_index_or xs s no_section).start
  start_at [] s = refl
  start_at (x ∷ xs) zero = refl
  start_at (x ∷ xs) (suc s) = start_at xs s

  live : (s : ℕ) → s < count_of S → members_of S s ≡ live_at I (start_of S s)
  live s lt = m.each (slice_index_or S.sections s no_section) (in_at S.sections s no_section lt)

  rise : (r s : ℕ) → r < s → s < count_of S → start_of S r < start_of S s
  rise r s lt sn =
      let k : slice_index_or (starts_of S.sections) r 0 < slice_index_or (starts_of S.sections) s 0 =
      rises_at (starts_of S.sections) r s 0 m.rise lt (let z = length-map S.sections (λ (x : Section). x.start) in
      omega arith) in
      let a = start_at S.sections r in let b = start_at S.sections s in omega arith

  pub begins : AreRuns I S
  begins s lt = m.begin (slice_index_or S.sections s no_section) (in_at S.sections s no_section lt)

  not_empty : (s : ℕ) → s < count_of S → members_of S s ≢ []
  not_empty s lt e = (begins s lt).something (sym (live s lt) ∙ e)

  together : (t b : ℕ) → b < length I → IsLive (buffer I b) t → (s : ℕ) × (s < count_of S) × HasAllAt I S t s
  together t b bn h =
      let r = m.stand t b bn h in
      (r.0, r.1.in_range, λ c cn k. r.1.has_all t c (between_ends t (start_of S r.0)) cn k)

  -- the section that stands for the peak is its own
  peak : (t : ℕ) → IsPeak I t → (s : ℕ) × (s < count_of S) × (start_of S s ≡ t)
  peak t p = go (nil_or_not (live_at I t))
    where
      go : (live_at I t ≡ []) ⊎ ((b : ℕ) × IsIn b (live_at I t)) → (s : ℕ) × (s < count_of S) × (start_of S s ≡ t)
      go (inl e) = absurd (load_positive I m.sound p.not_empty (λ s.
          let k = p.most s in let z : load I t ≡ 0 = load_is I t ∙ ap (sum_by (λ b. (buffer I b).size)) e in
          omega arith))
      go (inr r) =
          let k = from_live I t r.0 r.1 in
          let q = m.stand t r.0 k.0 k.1 in
          (q.0, q.1.in_range, own q.0 q.1)
        where
          own : (s : ℕ) → StandsFor I S s t → start_of S s ≡ t
          own s f = at (start_of S s) (live s f.in_range)
              (λ b i. let k = from_live I t b i in f.has_all t b (between_ends t (start_of S s)) k.0 k.1) f.more
            where
              at : (u : ℕ) → members_of S s ≡ live_at I u → AreAmong (live_at I t) (members_of S s) →
                  (t < u → live_at I t ≢ members_of S s) → u ≡ t
              at u e among more = peak_own I t u m.sound p (rw e at among) (λ lt f. more lt (f ∙ sym e))

  listed : (b : ℕ) → b < length I → sections_of S b ≡ filter (λ s. is_live (buffer I b) (start_of S s))
      (numbers (count_of S))
  listed b bn =
      ap (λ (ls : List (List ℕ)). slice_index_or ls b []) m.places
      ∙ (get_or-map-range_with_len (places_of S.sections) 0 (length I) b b [] bn (omega arith)
      ∙ filter_same (λ s. has_member (slice_index_or S.sections s no_section) b)
      (λ s. is_live (buffer I b) (start_of S s)) (numbers (count_of S))
      (λ s i. let lt = below (count_of S) s i in
      has_is (members_of S s) b (is_live (buffer I b) (start_of S s))
      (λ j. (from_live I (start_of S s) b (rw (live s lt) at j)).1)
      (λ h. rw (live s lt) (into_live I (start_of S s) b bn h))))

  shared : (b c : ℕ) → b < length I → c < length I → ShareSection S b c ↔ Share (buffer I b) (buffer I c)
  shared b c bn cn = (
    (λ h. let s = h.0 in (
      start_of S s,
      (from_live I (start_of S s) b (rw (live s h.1) at h.2)).1,
      (from_live I (start_of S s) c (rw (live s h.1) at h.3)).1,
    )),
    (λ h. let r = together h.0 b bn h.1 in (r.0, r.1, r.2 b bn h.1, r.2 c cn h.2)),
  )

  pub belongs : AreSectionsOf I S
  belongs = record {
    buffers = ap length m.places ∙ length-map-range_with_len (places_of S.sections) 0 (length I);
    rise = rise;
    live = live;
    not_empty = not_empty;
    together = together;
    peak = peak;
    listed = listed;
    shared = shared;
  }

-- what the code makes of what is kept of the runs
made : (I : Instance) (sections : List Section) (of_buffers : List (List ℕ)) (n : ℕ) → All IsBuffer I →
    n ≡ length I → AreThinRuns I sections → of_buffers ≡ map (places_of sections) (numbers n) →
    IsMade I (record { sections = sections; of_buffers = of_buffers })
made I sections of_buffers n sound e t p = record {
  sound = sound;
  each = λ x i. t.plain.each x (t.thinned.chosen x i);
  rise = t.thinned.rise;
  begin = λ x i. begin_at I t.runs S t.plain t.thinned x (t.thinned.chosen x i);
  stand = stand_for_all I t.runs S t.plain t.thinned;
  places = rw e at p;
}
  where
    S : SectionList
    S = record { sections = sections; of_buffers = of_buffers }

-- the same of the vectors of the code, of which one was lent
pub made_of : (I : Instance) (sections lent : List Declared) (of_buffers : List (Vec ℕ)) (n : ℕ) →
    All IsBuffer I → n ≡ length I → AreThinRuns I (map section_of sections) →
    map items_of of_buffers ≡ map (places_of (map section_of lent)) (numbers n) → lent ≡ sections →
    IsMade I (list_of sections of_buffers)
made_of I sections lent of_buffers n sound e t p same = made I (map section_of sections) (map items_of of_buffers) n
    sound e t (p ∙ ap (λ xs. map (places_of (map section_of xs)) (numbers n)) same)

-- what belongs is kept, if it is not too long
pub kept_of : (I : Instance) (S : SectionList) → AreSectionsOf I S → count_of S < 2 ^ 32 → AreKeptSections S
kept_of I S a few = record {
  limit = few;
  rise = a.rise;
  members_rise = λ s lt. rw (a.live s lt) (rises_live I (start_of S s));
  members_in_range = λ s lt. rw (a.live s lt, a.buffers) (all_from_in (λ b. b < length I) (live_at I (start_of S s))
      (λ b i. (from_live I (start_of S s) b i).0));
  members_not_empty = a.not_empty;
  places_rise = λ b lt. rw (a.listed b (within b lt))
      (rises-numbers (λ s. is_live (buffer I b) (start_of S s)) (count_of S));
  places_in_range = λ b lt. rw (a.listed b (within b lt)) (all_from_in (λ s. s < count_of S)
      (filter (λ s. is_live (buffer I b) (start_of S s)) (numbers (count_of S)))
      (λ s i. below (count_of S) s
      (from_filter (λ s. is_live (buffer I b) (start_of S s)) (numbers (count_of S)) s i).0));
  each_other = λ b s lt sn. (
    (λ i. rw (a.live s sn) (into_live I (start_of S s) b (within b lt) (from_filter
        (λ s. is_live (buffer I b) (start_of S s)) (numbers (count_of S)) s (rw (a.listed b (within b lt)) at i)).1)),
    (λ i. rw (a.listed b (within b lt)) (into_filter (λ s. is_live (buffer I b) (start_of S s)) (numbers (count_of S)) s
        (among (count_of S) s sn) (from_live I (start_of S s) b (rw (a.live s sn) at i)).1)),
  );
}
  where
    within : (b : ℕ) → b < length S.of_buffers → b < length I
    within b lt = let k = a.buffers in omega arith
