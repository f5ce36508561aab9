-- The one line of a bound, and the limits of its numbers.
use Rattle.std.proofs.Common.{◌≡◌, ℕ, ◌+◌, ◌-◌, ◌%◌, ◌^◌, ◌<◌, ◌≤◌, ◌⊎◌, inl, inr, Bool, true, false, cond, List, [], ◌∷◌, ◌++◌, length, filter, map, Some, slice_get, sym, refl, ap, ◌∙◌, arith, append-nil}
use Rattle.std.proofs.lemmas.List.{length-map, map-append}
use Rattle.std.proofs.lemmas.List.FromFn.{length-range_with_len}
use native.Mathlib.Nat.{mod-eq_of_lt}
use Rattle.std.specs.Int.{next_multiple_of}
use Rattle.std.specs.List.{All}
use Rattle.dsa_terms.specs.Bounds.{line_height, stack, stack_line, stack_log}
use Rattle.dsa_terms.specs.Buffers.{Instance, buffer}
use Rattle.dsa_terms.specs.Claims.{Entry, IsIn, IsWhole, Rises, buffers_of}
use Rattle.dsa_terms.specs.Layouts.{IsMultiple}
use Rattle.dsa_terms.specs.Logs.{IsAccepted, IsLegal, Line, Log, Over}
use Rattle.dsa_terms.specs.Parts.{numbers}
use Rattle.dsa_terms.proofs.Lists.{length-filter_le, nil_or_not}
use Rattle.dsa_terms.proofs.Moments.{live_before}
use Rattle.dsa_terms.proofs.NumberTests.{equal}
use Rattle.dsa_start_laws.specs.Piles.{counted_buffers, pile}
use Rattle.dsa_start_laws.proofs.OverLines.{in_bound}
use Rattle.dsa_start_laws.proofs.Piles.{in_counted, line_height_is_pile, over_stack, stack_line_is_pile, stack_of_some}
use Rattle.dsa_model.specs.Buffer.{IsBuffer, buffer_limit}
use Rattle.dsa_model.proofs.Instances.{sound_buffer}
use Rattle.canonical_order.specs.Claims.{IsBoundedBy}
use Rattle.refute_log.specs.Logs.{OpenLog, ended}
use Rattle.refute_log.specs.Lines.{IsWithin}
use Rattle.lifetime.proofs.Lists.{filter_more, rises-numbers}
use Rattle.lower_bounds.specs.Best.{IsBoundOf}
use Rattle.lower_bounds.specs.Stacks.{IsModulus, counts_at, total_of}
use Rattle.lower_bounds.specs.declared.value.Bound.{Bound}
use Rattle.lower_bounds.proofs.Orders.{floor_limit}
use Rattle.lower_bounds.proofs.Piles.{total_limit}

-- ---- the counted buffers, each with the same bound
abbrev pub lifted : ℕ → List ℕ → List Entry
lifted h members = map (λ (b : ℕ). let e : Entry = (b, h) in e) members

pub lifted_more : (p : ℕ → Bool) (h b : ℕ) (xs ys : List Entry) → xs ≡ lifted h (filter p (numbers b)) →
    p b ≡ true → ys ≡ xs ++ (b, h) ∷ [] → ys ≡ lifted h (filter p (numbers (b + 1)))
lifted_more p h b xs ys e t q = q ∙ (ap (λ zs. zs ++ (b, h) ∷ []) e
    ∙ (sym (map-append (λ (b : ℕ). let e : Entry = (b, h) in e) (filter p (numbers b)) (b ∷ []))
    ∙ ap (lifted h) (sym (filter_more p b ∙ ap (λ t. filter p (numbers b) ++ cond t (b ∷ []) []) t))))

pub lifted_same : (p : ℕ → Bool) (h b : ℕ) (xs ys : List Entry) → xs ≡ lifted h (filter p (numbers b)) →
    p b ≡ false → ys ≡ xs → ys ≡ lifted h (filter p (numbers (b + 1)))
lifted_same p h b xs ys e t q = q ∙ (e ∙ ap (lifted h) (sym (filter_more p b
    ∙ (ap (λ t. filter p (numbers b) ++ cond t (b ∷ []) []) t ∙ append-nil (filter p (numbers b))))))

pub lifted_all : (I : Instance) (t H G h n : ℕ) (xs : List Entry) →
    xs ≡ lifted h (filter (counts_at I t H G) (numbers n)) → n ≡ length I → xs ≡ lifted h (counted_buffers I t H G)
unfolding counted_buffers
lifted_all I t H G h n xs e m = e ∙ ap (λ n. lifted h (filter (counts_at I t H G) (numbers n))) m

buffers_of_lifted : (h : ℕ) (bs : List ℕ) → buffers_of (lifted h bs) ≡ bs
buffers_of_lifted h [] = refl
buffers_of_lifted h (b ∷ bs) = ap (λ cs. b ∷ cs) (buffers_of_lifted h bs)

pub rises_lifted : (I : Instance) (t H G h : ℕ) (xs : List Entry) → xs ≡ lifted h (counted_buffers I t H G) →
    Rises (buffers_of xs)
unfolding counted_buffers
rises_lifted I t H G h xs e = rw (e, buffers_of_lifted h (filter (counts_at I t H G) (numbers (length I))))
    (rises-numbers (counts_at I t H G) (length I))

few_counted : (I : Instance) (t H G : ℕ) → length (counted_buffers I t H G) ≤ length I
unfolding counted_buffers
few_counted I t H G =
    let k = length-filter_le (counts_at I t H G) (numbers (length I)) in
    let n : length (numbers (length I)) ≡ length I = length-range_with_len 0 (length I) in
    omega arith

pub few_lifted : (I : Instance) (t H G h : ℕ) (xs : List Entry) → xs ≡ lifted h (counted_buffers I t H G) →
    length I ≤ buffer_limit → length xs < 2 ^ 32
few_lifted I t H G h xs e few = rw e (
    let k = few_counted I t H G in
    let m = length-map (counted_buffers I t H G) (λ (b : ℕ). let e : Entry = (b, h) in e) in
    omega arith)

pub lifted_bounds : (I : Instance) (t H G h : ℕ) (xs : List Entry) → xs ≡ lifted h (counted_buffers I t H G) →
    h ≤ 2 ^ 60 → IsBoundedBy (2 ^ 60) xs
lifted_bounds I t H G h xs e le f i =
    let r = in_bound h (counted_buffers I t H G) f (rw e at i) in
    let q = r.1 in
    omega arith

-- ---- the numbers of a bound above a capacity
pub record IsAbove (I : Instance) (b : Bound) (C : ℕ) : Type 0 where
  pub modulus : 1 ≤ b.modulus
  pub multiple : IsMultiple b.height b.modulus
  pub value : b.capacity ≡ b.height + pile I b.moment b.height b.modulus
  pub below : C < b.capacity
  pub member : ℕ
  pub counts : IsIn member (counted_buffers I b.moment b.height b.modulus)
  pub accepted : IsAccepted I (stack_log I b.moment b.height b.modulus C)

pub is_above : (I : Instance) (b : Bound) (C : ℕ) → IsBoundOf I b → C < b.capacity →
    ((t H G C : ℕ) → 1 ≤ G → IsMultiple H G → C < stack I t H G → IsAccepted I (stack_log I t H G C)) → IsAbove I b C
is_above I b C (inl e) lt law = absurd (omega arith)
is_above I b C (inr r) lt law = go (nil_or_not (counted_buffers I b.moment b.height b.modulus))
  where
    above : C < stack I b.moment b.height b.modulus
    above = let k = r.2 in omega arith

    go : (counted_buffers I b.moment b.height b.modulus ≡ [])
        ⊎ ((c : ℕ) × IsIn c (counted_buffers I b.moment b.height b.modulus)) →
        IsAbove I b C
    go (inl e) = absurd ((over_stack I b.moment b.height b.modulus C above).0 e)
    go (inr c) = record {
      modulus = r.0;
      multiple = r.1;
      value = r.2 ∙ stack_of_some I b.moment b.height b.modulus
          (over_stack I b.moment b.height b.modulus C above).0;
      below = lt;
      member = c.0;
      counts = c.1;
      accepted = law b.moment b.height b.modulus C r.0 r.1 above;
    }

pub height_in : (I : Instance) (b : Bound) (C : ℕ) → IsAbove I b C → b.height ≤ b.capacity
height_in I b C a = let k = a.value in omega arith

-- the height of the line is the least with which it is legal
pub height_is : (I : Instance) (b : Bound) (C h : ℕ) → IsAbove I b C →
    h ≡ next_multiple_of (C + 1 - (b.capacity - b.height)) b.modulus →
    h ≡ line_height I b.moment b.height b.modulus C
height_is I b C h a e =
    let p : b.capacity - b.height ≡ pile I b.moment b.height b.modulus = (let k = a.value in omega arith) in
    e ∙ (ap (λ n. next_multiple_of (C + 1 - n) b.modulus) p
    ∙ sym (line_height_is_pile I b.moment b.height b.modulus C))

-- ---- how great they are
modulus_limit : (I : Instance) (t H G b : ℕ) → All IsBuffer I → 1 ≤ G → IsIn b (counted_buffers I t H G) → IsModulus G
modulus_limit I t H G b h pos i =
    let q = in_counted I t H G b i in
    let s = sound_buffer I b h q.0 in
    record {
      some = pos;
      limit = divides (buffer I b).alignment G s.sound.1 s.within_alignment (equal ((buffer I b).alignment % G) 0 q.3);
    }
  where
    divides : (a G : ℕ) → 1 ≤ a → a ≤ 2 ^ 32 → a % G ≡ 0 → G ≤ 2 ^ 32
    divides a G pos le z = go (cases G a)
      where
        cases : (m n : ℕ) → (m ≤ n) ⊎ (n < m)
        cases m n = grind arith

        go : (G ≤ a) ⊎ (a < G) → G ≤ 2 ^ 32
        go (inl k) = omega arith
        go (inr k) = absurd (let e : a % G ≡ a = mod-eq_of_lt k in omega arith)

pub height_limit : (I : Instance) (b : Bound) (C : ℕ) → IsAbove I b C → All IsBuffer I → b.height ≤ 2 ^ 41
height_limit I b C a h =
    let q = in_counted I b.moment b.height b.modulus a.member a.counts in
    let l = floor_limit (buffer I a.member) (sound_buffer I a.member h q.0) in
    let k = q.2 in
    omega arith

pile_limit : (I : Instance) (t H G : ℕ) → All IsBuffer I → length I ≤ buffer_limit → IsModulus G → pile I t H G ≤ 2 ^ 53
unfolding pile total_of
pile_limit I t H G h few m =
    let k = total_limit I G (counted_buffers I t H G) (λ b i. sound_buffer I b h (in_counted I t H G b i).0) m in
    let n = few_counted I t H G in
    omega arith

pub capacity_limit : (I : Instance) (b : Bound) (C : ℕ) → IsAbove I b C → All IsBuffer I → length I ≤ buffer_limit →
    C ≤ 2 ^ 60
capacity_limit I b C a h few =
    let m = modulus_limit I b.moment b.height b.modulus a.member h a.modulus a.counts in
    let p = pile_limit I b.moment b.height b.modulus h few m in
    let t = height_limit I b C a h in
    let v = a.value in
    let l = a.below in
    omega arith

pub line_within : (I : Instance) (b : Bound) (C h : ℕ) (claim : List Entry) → IsAbove I b C → All IsBuffer I →
    claim ≡ lifted h (counted_buffers I b.moment b.height b.modulus) → h ≤ b.height →
    IsWithin (Over claim b.moment h b.modulus)
line_within I b C h claim a buffers e le =
    let q = in_counted I b.moment b.height b.modulus a.member a.counts in
    let s = (sound_buffer I a.member buffers q.0).upper_limit in
    let l = live_before (buffer I a.member) b.moment q.1 in
    let g = (modulus_limit I b.moment b.height b.modulus a.member buffers a.modulus a.counts).limit in
    let t = height_limit I b C a buffers in (
      lifted_bounds I b.moment b.height b.modulus h claim e (omega arith),
      omega arith,
      omega arith,
      omega arith,
    )

-- ---- the line, and the log with that line alone
line_is : (I : Instance) (b : Bound) (C h : ℕ) (claim : List Entry) →
    claim ≡ lifted h (counted_buffers I b.moment b.height b.modulus) → h ≡ line_height I b.moment b.height b.modulus C →
    Over claim b.moment h b.modulus
    ≡ stack_line I b.moment b.height b.modulus (line_height I b.moment b.height b.modulus C)
line_is I b C h claim e q =
    rw (e, q) (sym (stack_line_is_pile I b.moment b.height b.modulus (line_height I b.moment b.height b.modulus C)))

pub legal_after : (I : Instance) (b : Bound) (C h : ℕ) (claim : List Entry) (old : OpenLog) → IsAbove I b C →
    claim ≡ lifted h (counted_buffers I b.moment b.height b.modulus) → h ≡ line_height I b.moment b.height b.modulus C →
    old ≡ record { count = length I; capacity = C; lines = [] } →
    IsLegal I old.capacity old.lines (Over claim b.moment h b.modulus)
unfolding stack_log
legal_after I b C h claim old a e q f = rw (f, line_is I b C h claim e q)
    (a.accepted.legal 0 (stack_line I b.moment b.height b.modulus (line_height I b.moment b.height b.modulus C)) refl)

pub log_is : (I : Instance) (b : Bound) (C h end : ℕ) (claim : List Entry) (old new : OpenLog) (closed : Log) →
    claim ≡ lifted h (counted_buffers I b.moment b.height b.modulus) → h ≡ line_height I b.moment b.height b.modulus C →
    old ≡ record { count = length I; capacity = C; lines = [] } → end ≡ length old.lines →
    new ≡ record old { lines = old.lines ++ Over claim b.moment h b.modulus ∷ [] } →
    closed ≡ ended new end → closed ≡ stack_log I b.moment b.height b.modulus C
unfolding stack_log
log_is I b C h end claim old new closed e q f g m k = rw (k, m, g, f, line_is I b C h claim e q) refl

pub end_line : (I : Instance) (C end : ℕ) (line : Line) (old new : OpenLog) →
    old ≡ record { count = length I; capacity = C; lines = [] } → end ≡ length old.lines →
    new ≡ record old { lines = old.lines ++ line ∷ [] } → slice_get new.lines end ≡ Some line
end_line I C end line old new f g h = rw (h, g, f) refl

-- no bound is above its buffer's floor
pub whole_of : (I : Instance) (b : Bound) (h : ℕ) (claim : List Entry) →
    claim ≡ lifted h (counted_buffers I b.moment b.height b.modulus) → h ≤ b.height → IsWhole I claim
whole_of I b h claim e le f i =
    let r = in_bound h (counted_buffers I b.moment b.height b.modulus) f (rw e at i) in
    let k = (in_counted I b.moment b.height b.modulus f.0 r.0).2 in
    let q = r.1 in
    omega arith
