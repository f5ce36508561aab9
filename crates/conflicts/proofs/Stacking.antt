-- What an Over line stacks, added up one entry after another.
use Rattle.std.proofs.Common.{◌≡◌, ◌^◌, ℕ, ◌+◌, ◌-◌, ◌*◌, ◌≤◌, true, false, List, [], ◌∷◌, ◌++◌, map, max, drop, refl, arith}
use Rattle.std.proofs.lemmas.List.{append_assoc}
use Rattle.std.proofs.lemmas.List.Sums.{sum_by-cons}
use Rattle.std.specs.List.{sum_by}
use Rattle.std.specs.Int.{next_multiple_of}
use Rattle.dsa_terms.specs.Buffers.{Buffer, Instance, buffer}
use Rattle.dsa_terms.specs.Claims.{Claim, Entry, buffers_of, up}
use Rattle.dsa_terms.specs.Logs.{greatest, is_stacked, rounded, rounding, stacked}
use Rattle.refute_log.specs.Stacks.{stacks}

-- what is known after the first n entries: with the rest they make up the whole
pub record Gathered (I : Instance) (l : Claim) (T H G n : ℕ) (members : List ℕ) (sum most : ℕ) : Type 0 where
  pub members_of : members ++ buffers_of (stacked I (drop n l) T H G) ≡ buffers_of (stacked I l T H G)
  pub sum_of : sum + sum_by (rounded I G) (stacked I (drop n l) T H G) ≡ sum_by (rounded I G) (stacked I l T H G)
  pub most_of : max most (greatest (map (rounding I G) (stacked I (drop n l) T H G))) ≡
      greatest (map (rounding I G) (stacked I l T H G))
  pub limit : sum ≤ n * 2 ^ 41

-- ---- one entry, as the code reads it
pub stacked_test : (I : Instance) (T H G : ℕ) (e : Entry) (b : Buffer) → b ≡ buffer I e.0 →
    is_stacked I T H G e ≡ stacks b e.1 T H G
unfolding is_stacked up
stacked_test I T H G e b q = rw q refl

pub rounded_of : (I : Instance) (G : ℕ) (e : Entry) (b : Buffer) (size r : ℕ) → b ≡ buffer I e.0 → size ≡ b.size →
    r ≡ next_multiple_of size G → r ≡ rounded I G e
unfolding rounded
rounded_of I G e b size r q p k = rw (k, p, q) refl

pub rounding_of : (I : Instance) (G : ℕ) (e : Entry) (b : Buffer) (size r : ℕ) → b ≡ buffer I e.0 → size ≡ b.size →
    r ≡ rounded I G e → r - size ≡ rounding I G e
unfolding rounding
rounding_of I G e b size r q p k = rw (k, p, q) refl

-- ---- one entry more
max_turns : (a b c d : ℕ) → max b (max a c) ≡ d → max (max a b) c ≡ d
max_turns a b c d h = grind arith

module _ (I : Instance) (l : Claim) (T H G n : ℕ) (e : Entry) (at : drop n l ≡ e ∷ drop (n + 1) l) where
  pub gather_take : (members after : List ℕ) (sum total most top : ℕ) → is_stacked I T H G e ≡ true →
      after ≡ members ++ e.0 ∷ [] → total ≡ sum + rounded I G e → top ≡ max (rounding I G e) most →
      rounded I G e ≤ 2 ^ 41 → Gathered I l T H G n members sum most →
      Gathered I l T H G (n + 1) after total top
  gather_take members after sum total most top t q p r le h = record {
    members_of = rw (q, append_assoc members (e.0 ∷ []) (buffers_of rest))
        (rw taken at h.members_of);
    sum_of = let k = rw (taken, sum_by-cons (rounded I G) e rest) at h.sum_of in omega arith;
    most_of = rw r
        (max_turns (rounding I G e) most (greatest (map (rounding I G) rest)) _ (rw taken at h.most_of));
    limit = let k = h.limit in omega arith;
  }
    where
      rest : Claim
      rest = stacked I (drop (n + 1) l) T H G

      taken : stacked I (drop n l) T H G ≡ e ∷ rest
      taken = rw (at, t) refl

  pub gather_skip : (members : List ℕ) (sum most : ℕ) → is_stacked I T H G e ≡ false →
      Gathered I l T H G n members sum most → Gathered I l T H G (n + 1) members sum most
  gather_skip members sum most t h = record {
    members_of = rw skipped at h.members_of;
    sum_of = rw skipped at h.sum_of;
    most_of = rw skipped at h.most_of;
    limit = let k = h.limit in omega arith;
  }
    where
      skipped : stacked I (drop n l) T H G ≡ stacked I (drop (n + 1) l) T H G
      skipped = rw (at, t) refl
