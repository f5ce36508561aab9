-- Slots that buffers get one after another, as they are kept by number.
use Rattle.std.proofs.Common.{◌≡◌, ◌≢◌, ℕ, zero, suc, ◌+◌, ◌<◌, ◌≤◌, inl, inr, Bool, true, false, cond, ◌==◌, List, [], ◌∷◌, ◌++◌, length, map, take, drop, slice_index_or, slice_set, replicate, refl, sym, ap, ◌∙◌, subst, arith, append_assoc}
use Rattle.std.proofs.lemmas.List.{append-nil, get_or-replicate, get_or-set_other, get_or-set_same, length-replicate, length-set, map-append, take_all, take_more}
use Rattle.std.proofs.lemmas.List.FromFn.{fill_by_all, get_or-map-range_with_len, length-map-range_with_len}
use Rattle.dsa_terms.specs.Buffers.{Buffer, Instance, buffer, IsInstance}
use Rattle.dsa_terms.specs.Claims.{buffers_of, Entry, IsIn, number_of, Rises}
use Rattle.dsa_terms.specs.Sorts.{put_by, ordered_by, IsOrdered}
use Rattle.dsa_terms.specs.Orders.{rises_by}
use Rattle.dsa_terms.specs.Parts.{numbers}
use Rattle.dsa_terms.proofs.Moments.{lasts}
use Rattle.dsa_terms.proofs.NumberTests.{apart, differ, equal, same}
use Rattle.dsa_terms.proofs.Places.{in_at}
use Rattle.dsa_search_laws.proofs.Parts.{number_of-right}
use Rattle.dsa_terms.proofs.Lists.{from_ordered_by}
use Rattle.size_classes.specs.Pools.{IsReleased, IsTaken, no_slots, Pool}
use Rattle.size_classes.specs.Slots.{AreMembers, AreTurns, held, in_turn, least_free, slot_of, slotted, with_slot}
use Rattle.size_classes.proofs.Holding.{holding_later, holding_none, holding_released, holding_taken, IsHolding, slot_is_least}
use Rattle.size_classes.proofs.TurnLemmas.{before_of, begins_no_later, is_another, ordered_is_ordered, turn_is_order}

-- ---- one more at the end
slotted_push : (I : Instance) (xs : List ℕ) (b : ℕ) (es : List Entry) →
    slotted I (xs ++ b ∷ []) es ≡ with_slot I (slotted I xs es) b
slotted_push I [] b es = refl
slotted_push I (x ∷ xs) b es = slotted_push I xs b (with_slot I es x)

buffers_of_slotted : (I : Instance) (xs : List ℕ) (es : List Entry) →
    buffers_of (slotted I xs es) ≡ buffers_of es ++ xs
buffers_of_slotted I [] es = sym (append-nil (buffers_of es))
buffers_of_slotted I (x ∷ xs) es =
    buffers_of_slotted I xs (with_slot I es x)
    ∙ rw (map-append (λ (e : Entry). e.0) es ((x, least_free (held I x es)) ∷ []))
    (append_assoc (buffers_of es) (x ∷ []) xs)

split_at : {X : Type 0} (xs : List X) (i : ℕ) (d : X) → i < length xs →
    xs ≡ take i xs ++ slice_index_or xs i d ∷ drop (suc i) xs
split_at [] i d lt = absurd (omega arith)
split_at (x ∷ xs) zero d lt = refl
split_at (x ∷ xs) (suc i) d lt = ap (λ ys. x ∷ ys) (split_at xs i d (omega arith))

-- ---- slots by number
number_of-push : (es : List Entry) (b s k : ℕ) → b ≢ k → number_of (es ++ (b, s) ∷ []) k ≡ number_of es k
number_of-push [] b s k ne = rw (apart b k ne) refl
number_of-push (e ∷ es) b s k ne = ap (cond (e.0 == k) e.1) (number_of-push es b s k ne)

set_is : (es : List Entry) (n b s : ℕ) → b < n → (IsIn b (buffers_of es) → ⊥) →
    slice_set (map (number_of es) (numbers n)) b s ≡ map (number_of (es ++ (b, s) ∷ [])) (numbers n)
set_is es n b s lt fresh = fill_by_all (number_of (es ++ (b, s) ∷ []))
    (slice_set (map (number_of es) (numbers n)) b s) n 0
    (length-set (map (number_of es) (numbers n)) b s ∙ length-map-range_with_len (number_of es) 0 n)
    (λ k kn. at k kn (b == k) refl)
  where
    long : b < length (map (number_of es) (numbers n))
    long = let z = length-map-range_with_len (number_of es) 0 n in omega arith

    own : number_of (es ++ (b, s) ∷ []) b ≡ s
    own = number_of-right es ((b, s) ∷ []) b fresh ∙ rw (same b b refl) refl

    at : (k : ℕ) → k < n → (t : Bool) → (b == k) ≡ t →
        slice_index_or (slice_set (map (number_of es) (numbers n)) b s) k 0 ≡ number_of (es ++ (b, s) ∷ []) k
    at k kn true e = rw (← equal b k e) (get_or-set_same (map (number_of es) (numbers n)) b s 0 long ∙ sym own)
    at k kn false e = get_or-set_other (map (number_of es) (numbers n)) b k s 0 (λ q. differ b k e (sym q))
        ∙ get_or-map-range_with_len (number_of es) 0 n k k 0 kn (omega arith)
        ∙ sym (number_of-push es b s k (differ b k e))

-- ---- going along the turns
pub record IsColouring (I : Instance) (turns : List ℕ) (i : ℕ) (numbered : List ℕ) (p : Pool) : Type 0 where
  slots : numbered ≡ map (number_of (slotted I (take i turns) [])) (numbers (length I))
  holding : (m : ℕ) → ((b : ℕ) → IsIn b (take i turns) → (buffer I b).lower ≤ m) →
      IsHolding I (slotted I (take i turns) []) m p
  pub few : p.count ≤ i

pub colouring_none : (I : Instance) (turns slots : List ℕ) (n : ℕ) (p : Pool) → n ≡ length I → slots ≡ replicate n 0 →
    p ≡ no_slots → IsColouring I turns 0 slots p
colouring_none I turns slots n p e is none = rw none (record {
  slots = rw (is, e) (fill_by_all (number_of []) (replicate (length I) 0) (length I) 0 (length-replicate (length I) 0)
      (λ k lt. get_or-replicate (length I) k 0 0 lt));
  holding = λ m h. holding_none I m;
  few = omega arith;
})

pub colouring_more : (I : Instance) (turns : List ℕ) (i b d s : ℕ) (x : Buffer) (slots now : List ℕ) (p q r : Pool) →
    IsInstance I → AreTurns I turns → i < length turns → b ≡ slice_index_or turns i d → x ≡ buffer I b →
    IsReleased x.lower p q → IsTaken x.upper s q r → now ≡ slice_set slots b s → IsColouring I turns i slots p →
    IsColouring I turns (i + 1) now r
colouring_more I turns i b d s x slots now p q r sound t lt at is back taken set h = record {
  slots = rw whole (set ∙ rw (h.slots, out_is) (set_is es (length I) b (least_free (held I b es)) in_range fresh));
  holding = λ m above. rw whole (holding_later I (with_slot I es b) (buffer I b).lower m r
      (above b (rw (take_more turns i d lt, ← at) (last (take i turns)))) after);
  few = (let a = h.few in let f = back.count in let g = taken.out.by_one in omega arith);
}
  where
    es : List Entry
    es = slotted I (take i turns) []

    whole : slotted I (take (i + 1) turns) [] ≡ with_slot I es b
    whole = rw (take_more turns i d lt, ← at) (slotted_push I (take i turns) b [])

    last : (xs : List ℕ) → IsIn b (xs ++ b ∷ [])
    last [] = inl refl
    last (y ∷ ys) = inr (last ys)

    whole_turns : turns ≡ take i turns ++ b ∷ drop (suc i) turns
    whole_turns = rw at (split_at turns i d lt)

    ordered : IsOrdered (rises_by (λ (b : Buffer). b.lower) I) (take i turns ++ b ∷ drop (suc i) turns)
    ordered = subst (λ (bs : List ℕ). IsOrdered (rises_by (λ (b : Buffer). b.lower) I) bs) whole_turns t.ordered

    earlier : (c : ℕ) → IsIn c (take i turns) → rises_by (λ (b : Buffer). b.lower) I c b ≡ true
    earlier c j = before_of (rises_by (λ (b : Buffer). b.lower) I) (take i turns) (drop (suc i) turns) b c ordered j

    own : (xs ys : List ℕ) → IsIn b (xs ++ b ∷ ys)
    own [] ys = inl refl
    own (y ∷ xs) ys = inr (own xs ys)

    in_range : b < length I
    in_range = t.in_range b (rw whole_turns (own (take i turns) (drop (suc i) turns)))

    fresh : IsIn b (buffers_of es) → ⊥
    fresh j = is_another I b b (earlier b (rw (buffers_of_slotted I (take i turns) []) at j)) refl

    ready : IsHolding I es (buffer I b).lower q
    ready = holding_released I es (buffer I b).lower p q (rw is at back)
        (h.holding (buffer I b).lower (λ c j. begins_no_later I c b (earlier c j)))

    late : (e : ℕ × ℕ) → IsIn e q.busy → (buffer I b).lower < e.0
    late e j = rw is at ((back.busy e).0 j).1

    got : IsTaken (buffer I b).upper s q r
    got = rw is at taken

    out_is : s ≡ least_free (held I b es)
    out_is = slot_is_least I es b s q r late ready got

    after : IsHolding I (with_slot I es b) (buffer I b).lower r
    after = rw (← out_is) (holding_taken I es b s q r (lasts I b sound in_range) late ready got)

pub colouring_done : (I : Instance) (turns slots : List ℕ) (i : ℕ) (p : Pool) → length turns ≤ i →
    IsColouring I turns i slots p → slots ≡ map (number_of (slotted I turns [])) (numbers (length I))
colouring_done I turns slots i p le h =
    h.slots ∙ rw (take_all i turns le) refl

-- ---- the members in turn
pub member_at : (I : Instance) (members : List ℕ) (i d : ℕ) → AreMembers I members → i < length members →
    slice_index_or members i d < length I
member_at I members i d m lt = (m.each (slice_index_or members i d) (in_at members i d lt)).0

put_length : (before : ℕ → ℕ → Bool) (b : ℕ) (cs : List ℕ) → length (put_by before b cs) ≡ suc (length cs)
put_length before b [] = refl
put_length before b (c ∷ cs) = go (put_length before b cs) (before b c)
  where
    go : length (put_by before b cs) ≡ suc (length cs) → (t : Bool) →
        length (cond t (b ∷ c ∷ cs) (c ∷ put_by before b cs)) ≡ suc (suc (length cs))
    go ih true = refl
    go ih false = ap suc ih

ordered_length : (before : ℕ → ℕ → Bool) (bs : List ℕ) → length (ordered_by before bs) ≡ length bs
ordered_length before [] = refl
ordered_length before (b ∷ bs) = put_length before b (ordered_by before bs) ∙ ap suc (ordered_length before bs)

rises_few : (a n : ℕ) (xs : List ℕ) → a ≤ n → Rises xs → ((x : ℕ) → IsIn x xs → (a ≤ x) × (x < n)) → a + length xs ≤ n
rises_few a n [] le r h = omega arith
rises_few a n (x ∷ xs) le r h =
    let k = h x (inl refl) in let low = k.0 in let high = k.1 in
    let ih = rises_few (x + 1) n xs (omega arith) r.1 (λ y i. let u = r.0 y i in let v = (h y (inr i)).1 in
    (omega arith, v)) in
    omega arith

pub are_turns : (I : Instance) (members turns : List ℕ) → AreMembers I members → turns ≡ in_turn I members →
    AreTurns I turns
are_turns I members turns m e = rw e (record {
  ordered = ordered_is_ordered (rises_by (λ (b : Buffer). b.lower) I) members (turn_is_order I) m.rises;
  in_range = λ b i. (m.each b (from_ordered_by (rises_by (λ (b : Buffer). b.lower) I) members b i)).0;
  few = (let l = ordered_length (rises_by (λ (b : Buffer). b.lower) I) members in
      let k = rises_few 0 (length I) members (omega arith) m.rises
      (λ x i. (omega arith, (m.each x i).0)) in omega arith);
})

-- ---- the slot of a member by its number
pub slot_read : (I : Instance) (members turns numbered : List ℕ) (b s d : ℕ) → b < length I →
    turns ≡ in_turn I members →
    numbered ≡ map (number_of (slotted I turns [])) (numbers (length I)) → s ≡ slice_index_or numbered b d →
    s ≡ slot_of I members b
unfolding slot_of
slot_read I members turns numbered b s d lt e is at =
    at ∙ rw (is, e) (get_or-map-range_with_len (number_of (slotted I (in_turn I members) []))
    0 (length I) b b d lt (omega arith))

pub slots_more : (I : Instance) (members : List ℕ) (i b d s : ℕ) (slots more : List ℕ) → i < length members →
    b ≡ slice_index_or members i d → s ≡ slot_of I members b → more ≡ slots ++ s ∷ [] →
    slots ≡ map (slot_of I members) (take i members) → more ≡ map (slot_of I members) (take (i + 1) members)
slots_more I members i b d s slots more lt at is grown h =
    grown ∙ rw (h, is, at)
    (sym (rw (take_more members i d lt)
    (map-append (slot_of I members) (take i members) (slice_index_or members i d ∷ []))))

pub numbered_length : (I : Instance) (es : List Entry) (numbered : List ℕ) →
    numbered ≡ map (number_of es) (numbers (length I)) → length numbered ≡ length I
numbered_length I es numbered e = rw e (length-map-range_with_len (number_of es) 0 (length I))

pub colouring_length : (I : Instance) (turns : List ℕ) (i : ℕ) (slots : List ℕ) (p : Pool) →
    IsColouring I turns i slots p → length slots ≡ length I
colouring_length I turns i slots p h = numbered_length I (slotted I (take i turns) []) slots h.slots
