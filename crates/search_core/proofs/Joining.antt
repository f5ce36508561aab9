-- The answers of parts, put together one after another.
use Rattle.std.proofs.Common.{◌≡◌, ℕ, ◌+◌, ◌<◌, ◌≤◌, List, [], ◌∷◌, ◌++◌, length, drop, slice_index_or, Option, Some, None, sum_by, sym, subst, refl, ap, ◌∙◌, arith, append_assoc, append-nil}
use Rattle.std.proofs.lemmas.List.Sums.{sum_by-cons}
use Rattle.std.proofs.Math.ListN.{drop_of_length-le}
use Rattle.search_core.proofs.Words.{Instance, Entry, IsIn, first_of_all, join, least_is_first, offsets_of, part_of, part_of_first, parts, searched, whole, whole_work, first, work, in_at, next_of}
use Rattle.search_core.specs.Meters.{AreMore, Units}
use Rattle.search_core.proofs.Counting.{more_by_after}

-- an instance with a buffer has a part
some_part : (I : Instance) → 0 < length I → 0 < length (parts I)
some_part I lt = some (parts I) (part_of I 0) (part_of_first I 0 lt (least_is_first I 0 (λ c i. omega arith)))
  where
    some : (ps : List (List ℕ)) (p : List ℕ) → IsIn p ps → 0 < length ps
    some [] p i = absurd i
    some (q ∷ ps) p i = omega arith

-- the work of these parts
abbrev pub work_of_parts : Instance → ℕ → List (List ℕ) → ℕ
work_of_parts I C ps = sum_by (λ p. work I C (whole I p)) ps

-- the first i parts have the seats, and used the units
pub record IsJoining (I : Instance) (C : ℕ) (ps : List (List ℕ)) (i : ℕ) (seats : List Entry)
    (before after : Units) : Type 0 where
  pub left : first_of_all I C ps ≡ join (Some seats) (first_of_all I C (drop i ps))
  pub most : after.most ≡ before.most
  pub units : before.used ≤ after.used
  pub taken : 0 < i → AreMore before after
  pub work : after.used + work_of_parts I C (drop i ps) ≤ before.used + work_of_parts I C ps

join_along : (seats found : List Entry) (rest : Option (List Entry)) →
    join (Some seats) (join (Some found) rest) ≡ join (Some (seats ++ found)) rest
join_along seats found None = refl
join_along seats found (Some others) = ap (λ (es : List Entry). let o : Option (List Entry) = Some es in
    o) (sym (append_assoc seats found others))

module _ (I : Instance) (C : ℕ) (ps : List (List ℕ)) where
  pub is_part : (i : ℕ) → ps ≡ parts I → i < length ps → IsIn (slice_index_or ps i []) (parts I)
  is_part i q lt = subst (IsIn (slice_index_or ps i [])) q (in_at ps i [] lt)

  -- the work of the next part, with that of those after it, is within what is left
  left_work : (i : ℕ) (seats : List Entry) (before between : Units) → i < length ps →
      IsJoining I C ps i seats before between →
      between.used + (work I C (whole I (slice_index_or ps i [])) + work_of_parts I C
      (drop (i + 1) ps)) ≤ before.used + work_of_parts I C ps
  left_work i seats before between lt j = rw (
    next_of ps i [] lt,
    sum_by-cons (λ p. work I C (whole I p))
        (slice_index_or ps i []) (drop (i + 1) ps),
  ) at j.work

  pub part_work : (i : ℕ) (seats : List Entry) (before between : Units) → ps ≡ parts I → i < length ps →
      IsJoining I C ps i seats before between →
      between.used + work I C (whole I (slice_index_or ps i [])) ≤ before.used + whole_work I C
  unfolding whole_work
  part_work i seats before between q lt j = let k = left_work i seats before between lt j in rw (← q) (omega arith)

  pub all_work : (i : ℕ) (seats : List Entry) (before after : Units) → ps ≡ parts I →
      IsJoining I C ps i seats before after → after.used ≤ before.used + whole_work I C
  unfolding whole_work
  all_work i seats before after q j = let k = j.work in rw (← q) (omega arith)

  pub joining_next : (i : ℕ) (seats found all : List Entry) (before between after : Units) → i < length ps →
      IsJoining I C ps i seats before between →
      first I C (whole I (slice_index_or ps i [])) ≡ Some found → all ≡ seats ++ found → after.most ≡ between.most →
      between.used ≤ after.used → AreMore between after →
      after.used ≤ between.used + work I C (whole I (slice_index_or ps i [])) →
      IsJoining I C ps (i + 1) all before after
  joining_next i seats found all before between after lt j some q most units more used = record {
    left = j.left ∙ (rw (next_of ps i [] lt, some, q) (join_along seats found (first_of_all I C (drop (i + 1) ps))));
    most = most ∙ j.most;
    units = let k = j.units in omega arith;
    taken = λ _. more_by_after before between after 1 j.most j.units more;
    work = let k = left_work i seats before between lt j in omega arith;
  }

  pub part_refuted : (i : ℕ) (seats : List Entry) (before between : Units) → ps ≡ parts I → i < length ps →
      IsJoining I C ps i seats before between →
      first I C (whole I (slice_index_or ps i [])) ≡ None → searched I C ≡ None
  unfolding searched
  part_refuted i seats before between q lt j none =
      let k : first_of_all I C ps ≡ None = j.left ∙ (rw (next_of ps i [] lt, none) refl) in
      rw (← q, k) refl

  -- all parts are searched, and so is one
  pub all_taken : (i : ℕ) (seats : List Entry) (before after : Units) → ps ≡ parts I → length ps ≤ i →
      IsJoining I C ps i seats before after → 0 < length I → AreMore before after
  all_taken i seats before after q le j lt =
      let n = some_part I lt in
      let m = ap length q in
      j.taken (omega (arith, n, m, le))

  pub all_joined : (i : ℕ) (seats : List Entry) (before after : Units) → ps ≡ parts I → length ps ≤ i →
      IsJoining I C ps i seats before after →
      searched I C ≡ Some (offsets_of I seats)
  unfolding searched
  all_joined i seats before after q le j =
      let k : first_of_all I C ps ≡ Some seats = j.left ∙ (rw (drop_of_length-le ps le)
      (ap (λ (es : List Entry). let o : Option (List Entry) = Some es in o) (append-nil seats))) in
      rw (← q, k) refl
