-- The buffers that the end of a log names do not fit by themselves.
use Rattle.std.proofs.Common.{◌≡◌, ◌≢◌, ℕ, zero, suc, ◌<◌, ◌≤◌, List, [], ◌∷◌, inr, length, slice_get, slice_index, slice_index_or, take, Some, sym, ap, ◌∙◌, subst, arith}
use Rattle.std.proofs.lemmas.List.{length-map}
use Rattle.std.specs.List.{All, remove}
use Rattle.dsa_terms.specs.Buffers.{Buffer, Instance, buffer, floor, IsInstance, IsLive}
use Rattle.dsa_terms.specs.Claims.{Claim, Entry, IsClaim, IsIn, IsRefuted, IsWhole, Places, Rises, buffers_of}
use Rattle.dsa_terms.specs.Layouts.{IsInfeasible, IsLayout, IsMultiple}
use Rattle.dsa_terms.specs.Logs.{IsAccepted, Line, Log, claim_of}
use Rattle.dsa_terms.proofs.Lists.{from_map, into_map}
use Rattle.dsa_terms.proofs.Places.{in_at}
use Rattle.dsa_terms.proofs.Moments.{sound}
use Rattle.dsa_terms.proofs.Numbers.{next_is_least}
use Rattle.dsa_search_laws.proofs.Claims.{not_placed}
use Rattle.dsa_search_laws.proofs.Logs.{from_take, legal_is_refuted}
use Rattle.dsa_model.specs.Buffer.{IsBuffer}
use Rattle.dsa_model.specs.Chosen.{some_of}
use Rattle.dsa_model.proofs.Instances.{sound_instance}
use Rattle.core_find.specs.Carried.{IsEnd, named, place_among}
use Rattle.core_find.specs.Looking.{AreNamed, IsLogOf}
use Rattle.core_find.proofs.Removed.{in_removed}
use Rattle.core_find.proofs.Some.{at_place, more_do_not_fit, rises_apart, rises_at, some_at, some_in}

-- ---- each line of an accepted log is refuted
lines_refuted : (I : Instance) (log : Log) → IsInstance I → IsAccepted I log → (n k : ℕ) (line : Line) → k < n →
    slice_get log.lines k ≡ Some line → IsRefuted I log.capacity (claim_of line)
lines_refuted I log s a zero k line lt h = absurd (omega arith)
lines_refuted I log s a (suc n) k line lt h =
    legal_is_refuted I log.capacity (take k log.lines) line s
    (λ j m q. let r = from_take log.lines k j m q in lines_refuted I log s a n j m (let z = r.1 in omega arith) r.0)
    (a.legal k line h)

-- a multiple of the alignment at or above the lowest is at or above the floor
floor_is_least : (b : Buffer) (x : ℕ) → 1 ≤ b.alignment → b.lowest ≤ x → IsMultiple x b.alignment → floor b ≤ x
unfolding floor
floor_is_least b x some low multiple = next_is_least b.lowest b.alignment x some low multiple

-- ---- a whole claim that is refuted
module _ (I : Instance) (C : ℕ) (ms : List ℕ) (l : Claim) (rises : Rises ms) (claim : IsClaim (some_of I ms) l) where
  abbrev number : Entry → ℕ
  number e = slice_index ms e.0

  within : (e : Entry) → IsIn e l → e.0 < length ms
  within e i = rw (← length-map ms (buffer I)) (claim.in_range e i)

  is_named : (e : Entry) → IsIn e l → IsIn (number e) (named ms l)
  is_named e i = into_map number l e i

  abbrev seat : Entry → ℕ
  seat e = place_among (number e) (named ms l)

  seated : (e : Entry) → IsIn e l → seat e < length (some_of I (named ms l))
  seated e i = rw (length-map (named ms l) (buffer I)) (at_place (number e) (named ms l) (is_named e i)).0

  same_buffer : (e : Entry) → IsIn e l → buffer (some_of I (named ms l)) (seat e) ≡ buffer (some_of I ms) e.0
  same_buffer e i = some_in I (named ms l) (number e) (is_named e i) ∙ sym (some_at I ms e.0 (within e i))

  seats_differ : (e f : Entry) → IsIn e l → IsIn f l → e.0 ≢ f.0 → seat e ≢ seat f
  seats_differ e f i j ne q =
      rises_apart ms e.0 f.0 rises (within e i) (within f j) ne
      (sym (at_place (number e) (named ms l) (is_named e i)).1
      ∙ ap (λ p. slice_index_or (named ms l) p 0) q
      ∙ (at_place (number f) (named ms l) (is_named f j)).1)

  abbrev offset : List ℕ → ℕ → ℕ
  offset offsets b = slice_index offsets (place_among (slice_index ms b) (named ms l))

  named_places : (offsets : List ℕ) → IsInstance (some_of I ms) → IsWhole (some_of I ms) l →
      IsLayout (some_of I (named ms l)) C offsets →
      Places (some_of I ms) C l (offset offsets)
  named_places offsets s whole h = record {
    aligned = λ e i. rw (← same_buffer e i) (h.aligned (seat e) (seated e i));
    above = λ e i. let k = whole e i in
        let low : (buffer (some_of I ms) e.0).lowest ≤ offset offsets e.0 =
        rw (← same_buffer e i) (h.above (seat e) (seated e i)) in
        let multiple : IsMultiple (offset offsets e.0) (buffer (some_of I ms) e.0).alignment =
        rw (← same_buffer e i) (h.aligned (seat e) (seated e i)) in
        let least = floor_is_least (buffer (some_of I ms) e.0) (offset offsets e.0) (sound (some_of I ms) e.0 s).1
        low multiple in
        omega arith;
    within = λ e i. rw (← same_buffer e i) (h.within (seat e) (seated e i));
    apart = λ e f t i j ne p q.
        let x = same_buffer e i in let y = same_buffer f j in
        rw (← x, ← y) (h.apart (seat e) (seat f) t (seated e i) (seated f j) (seats_differ e f i j ne)
        (subst (λ (z : Buffer). IsLive z t) (sym x) p) (subst (λ (z : Buffer). IsLive z t) (sym y) q));
  }

  pub named_do_not_fit : IsInstance (some_of I ms) → IsWhole (some_of I ms) l → IsRefuted (some_of I ms) C l →
      IsInfeasible (some_of I (named ms l)) C
  named_do_not_fit s whole refuted offsets h =
      not_placed (some_of I ms) C l (offset offsets) refuted (named_places offsets s whole h)

-- the numbers that a claim names rise
pub named_rise : (ms : List ℕ) (l : Claim) → Rises ms → Rises (buffers_of l) →
    ((e : Entry) → IsIn e l → e.0 < length ms) → Rises (named ms l)
named_rise ms [] r c h = tt
named_rise ms (e ∷ l) r c h = (
  λ y i. let f = from_map (λ (e : Entry). slice_index ms e.0) l y i in
      subst (λ k. slice_index ms e.0 < k) (sym f.2)
      (rises_at ms e.0 f.0.0 r (c.0 f.0.0 (into_map (λ (e : Entry). e.0) l f.0 f.1)) (h f.0 (inr f.1))),
  named_rise ms l r c.1 (λ f i. h f (inr i)),
)

-- what the end of an accepted log of the members names does not fit
pub end_does_not_fit : (I : Instance) (ms : List ℕ) (log : Log) (line : Line) → Rises ms → IsInstance (some_of I ms) →
    IsAccepted (some_of I ms) log → slice_get log.lines log.final ≡ Some line →
    IsInfeasible (some_of I (named ms (claim_of line))) log.capacity
end_does_not_fit I ms log line r s a at =
    let w = a.whole in
    let same : w.0 ≡ line = same_line w.0 line (sym w.1 ∙ at) in
    named_do_not_fit I log.capacity ms (claim_of line) r (a.legal log.final line at).claim s
    (subst (λ (m : Line). IsWhole (some_of I ms) (claim_of m)) same w.2)
    (lines_refuted (some_of I ms) log s a (suc log.final) log.final line (omega arith) at)
  where
    same_line : (a b : Line) → Some a ≡ Some b → a ≡ b
    same_line a b e = cc

-- ---- some of the members that do not fit
-- the end of a log of the members is a claim of them
pub end_in_range : (I : Instance) (ms : List ℕ) (log : Log) → IsAccepted (some_of I ms) log → (line : Line) →
    IsEnd log line → (e : Entry) → IsIn e (claim_of line) → e.0 < length ms
end_in_range I ms log a line at e i =
    rw (← length-map ms (buffer I)) ((a.legal log.final line at).claim.in_range e i)

in_named : (ms : List ℕ) (l : Claim) (b : ℕ) → ((e : Entry) → IsIn e l → e.0 < length ms) → IsIn b (named ms l) →
    IsIn b ms
in_named ms l b h i =
    let r = from_map (λ (e : Entry). slice_index ms e.0) l b i in
    subst (λ k. IsIn k ms) (sym r.2) (in_at ms r.0.0 0 (h r.0 r.1))

pub names_of_log : (I : Instance) (C : ℕ) (ms few : List ℕ) (log : Log) → Rises ms → IsInstance (some_of I ms) →
    IsAccepted (some_of I ms) log → log.capacity ≡ C →
    ((line : Line) → IsEnd log line → few ≡ named ms (claim_of line)) → AreNamed I C ms few
names_of_log I C ms few log r s a at is =
    let w = a.whole in
    let claim = (a.legal log.final w.0 w.1).claim in
    let in_range = end_in_range I ms log a w.0 w.1 in
    rw (is w.0 w.1) record {
      rise = named_rise ms (claim_of w.0) r claim.rises in_range;
      among = λ b i. in_named ms (claim_of w.0) b in_range i;
      do_not_fit = subst (λ D. IsInfeasible (some_of I (named ms (claim_of w.0))) D) at
          (end_does_not_fit I ms log w.0 r s a w.1);
    }

-- one that is not among them can be left out
pub names_stay : (I : Instance) (C : ℕ) (ms fewer few : List ℕ) (place : ℕ) → place < length ms →
    fewer ≡ remove ms place → (IsIn (slice_index ms place) few → ⊥) → AreNamed I C ms few → AreNamed I C fewer few
names_stay I C ms fewer few place lt is out h = rw is record {
  rise = h.rise;
  among = λ x i. in_removed ms place x lt (h.among x i)
      (λ e. out (subst (λ k. IsIn k few) e i));
  do_not_fit = h.do_not_fit;
}

pub others_do_not_fit : (I : Instance) (C : ℕ) (ms few : List ℕ) → AreNamed I C ms few → IsInfeasible (some_of I ms) C
others_do_not_fit I C ms few h = more_do_not_fit I C few ms h.rise h.among h.do_not_fit

-- ---- in the words of the code
pub ends_in_range : (I some : Instance) (ms now : List ℕ) (log : Log) → some ≡ some_of I ms → now ≡ ms →
    IsAccepted some log → (line : Line) → IsEnd log line → (e : Entry) → IsIn e (claim_of line) → e.0 < length now
ends_in_range I some ms now log is same a line at e i =
    rw same (end_in_range I ms log (subst (λ (J : Instance). IsAccepted J log) is a) line at e i)

pub found_names : (I some : Instance) (C : ℕ) (ms now few : List ℕ) (log : Log) → some ≡ some_of I ms → now ≡ ms →
    Rises ms → All IsBuffer some → IsAccepted some log → log.capacity ≡ C →
    ((line : Line) → IsEnd log line → few ≡ named now (claim_of line)) → AreNamed I C ms few × IsLogOf I C ms log
found_names I some C ms now few log is same r b a at h = (
  names_of_log I C ms few log r (subst (λ (J : Instance). IsInstance J) is (sound_instance some b))
      (subst (λ (J : Instance). IsAccepted J log) is a) at
      (λ line e. h line e ∙ ap (λ (xs : List ℕ). named xs (claim_of line)) same),
  (subst (λ (J : Instance). IsAccepted J log) is a, at),
)

pub pair_in_range : (pairs l : Claim) (k n : ℕ) → pairs ≡ l → k < length pairs →
    ((e : Entry) → IsIn e l → e.0 < n) → (slice_index_or pairs k (0, 0)).0 < n
pair_in_range pairs l k n is lt h =
    h (slice_index_or pairs k (0, 0)) (subst (λ (es : Claim). IsIn (slice_index_or pairs k (0, 0)) es) is
    (in_at pairs k (0, 0) lt))
