-- The last log without the next member, and what it does not say.
use Rattle.std.proofs.Common.{◌≡◌, ℕ, ◌<◌, false, not, ◌==◌, true, List, [], ◌∷◌, ◌++◌, All, length, slice_get, slice_index, slice_index_or, Some, refl, sym, ap, ◌∙◌, subst, arith}
use Rattle.std.specs.Global.{Vec}
use Rattle.std.specs.List.{list_any}
use Rattle.dsa_terms.specs.Buffers.{Instance}
use Rattle.dsa_terms.specs.Claims.{Claim, IsIn, Rises, buffers_of}
use Rattle.dsa_terms.specs.Logs.{IsAccepted, Line, Log, Over, claim_of}
use Rattle.dsa_terms.specs.Parts.{numbers, whole}
use Rattle.dsa_terms.proofs.Lists.{any_gives, none_passes, same_some}
use Rattle.dsa_terms.proofs.NumberTests.{differ, equal}
use Rattle.dsa_terms.proofs.Places.{all_from_in, any_default, in_from_all}
use Rattle.dsa_terms.proofs.Ranges.{below, rises-filter_numbers, rises-range}
use Rattle.dsa_search_laws.proofs.Members.{buffers_of-whole}
use Rattle.dsa_model.specs.Buffer.{IsBuffer}
use Rattle.refute_log.specs.Logs.{OpenLog, ended}
use Rattle.core_find.specs.Carried.{IsEnd, named}
use Rattle.core_find.specs.Cores.{without}
use Rattle.core_find.specs.Looking.{AreNamed, IsLogByFew, IsLogOf, IsLooking, IsStackOver, IsUnknown, next_member}
use Rattle.core_find.specs.declared.looking.Looking.{Looking}
use Rattle.core_find.proofs.Carried.{named_numbers}
use Rattle.core_find.proofs.Left.{from_without}
use Rattle.core_find.proofs.Named.{found_names}
use Rattle.core_find.proofs.Some.{some_of_all}

-- ---- the log of a stack
pub first_line : (log new : OpenLog) (n C : ℕ) (line : Line) → log ≡ record { count = n; capacity = C; lines = [] } →
    new ≡ record log { lines = log.lines ++ line ∷ [] } → slice_get new.lines 0 ≡ Some line
first_line log new n C line empty is =
    ap (λ (g : OpenLog). slice_get g.lines 0) is ∙ ap (λ (g : OpenLog). slice_get (g.lines ++ line ∷ []) 0) empty

pub over_by_few : (I : Instance) (C n T H G : ℕ) (few : List ℕ) (l : Claim) (log new : OpenLog) (closed : Log) →
    log ≡ record { count = n; capacity = C; lines = [] } →
    new ≡ record log { lines = log.lines ++ Over l T H G ∷ [] } → l ≡ whole I few → closed ≡ ended new 0 →
    IsAccepted I closed → IsLogByFew I C few closed
over_by_few I C n T H G few l log new closed empty is all end a = record {
  accepted = a;
  capacity = ap (λ (g : Log). g.capacity) end ∙ ap (λ (g : OpenLog). g.capacity) is
      ∙ ap (λ (g : OpenLog). g.capacity) empty;
  names = λ line at.
      let there : slice_get new.lines 0 ≡ Some line = sym (ap (λ (g : Log). slice_get g.lines g.final) end) ∙ at in
      let same : Over l T H G ≡ line = same_some (sym (first_line log new n C (Over l T H G) empty is) ∙ there) in
      ap (λ (x : Line). buffers_of (claim_of x)) (sym same) ∙ ap buffers_of all ∙ buffers_of-whole I few;
}

-- ---- the named without one
pub rises_without_one : (b : ℕ) (few : List ℕ) → Rises few → Rises (without b few)
rises_without_one b few r = rises-filter_numbers (λ c. not (c == b)) few r

pub named_in_range : (I : Instance) (C : ℕ) (ms few : List ℕ) (b : ℕ) → All (λ k. k < length I) ms →
    AreNamed I C ms few → All (λ k. k < length I) (without b few)
named_in_range I C ms few b all h =
    all_from_in (λ k. k < length I) (without b few)
    (λ k i. in_from_all (λ k. k < length I) ms all k (h.among k (from_without b few k i).0))

-- the last log is the one of the stack without the member
pub by_stack : (I : Instance) (C b : ℕ) (at : Looking) (few all : Vec ℕ) (log : Log) → All IsBuffer I →
    IsLooking I C at → few.items ≡ without b at.named.items → all.items ≡ numbers (length I) →
    IsLogByFew I C few.items log →
    IsLooking I C (record { members = at.members; rests = at.rests; named = few; log = log; before = Some all })
by_stack I C b at few all log buffers h fewer full stack = record {
  looked = h.looked;
  names = record {
    rise = rw fewer (rises_without_one b at.named.items h.names.rise);
    among = λ x i. h.names.among x
        (from_without b at.named.items x (subst (λ (xs : List ℕ). IsIn x xs) fewer i)).0;
    do_not_fit = found.0.do_not_fit;
  };
  by_end = λ line end. names line end ∙ ap (λ (xs : List ℕ). named xs (claim_of line)) (sym full);
  log_rises = rw full (rises-range (length I) 0);
  log_in_range = rw full (all_from_in (λ k. k < length I) (numbers (length I)) (λ k i. below (length I) k i));
  log_of = rw full found.1;
}
  where
    names : (line : Line) → IsEnd log line → few.items ≡ named (numbers (length I)) (claim_of line)
    names line end =
        sym (named_numbers (length I) (claim_of line) (stack.accepted.legal log.final line end).claim.in_range
        ∙ stack.names line end)

    found : AreNamed I C (numbers (length I)) few.items × IsLogOf I C (numbers (length I)) log
    found = found_names I I C (numbers (length I)) (numbers (length I)) few.items log (sym (some_of_all I)) refl
        (rises-range (length I) 0) buffers stack.accepted stack.capacity names

-- ---- the next member
pub next_is : (at known : Looking) (place b : ℕ) → known.members ≡ at.members → known.rests ≡ at.rests →
    place ≡ length known.rests.items → length at.rests.items < length at.members.items →
    b ≡ slice_index_or known.members.items place b → b ≡ next_member at
next_is at known place b members rests is lt here =
    let same : place ≡ length at.rests.items = is ∙ ap (λ (v : Vec (Vec ℕ)). length v.items) rests in
    here ∙ ap (λ (v : Vec ℕ). slice_index_or v.items place b) members
    ∙ any_default at.members.items place b 0 (omega arith) ∙ ap (slice_index at.members.items) same

-- ---- what the last log does not say
pub not_there : (b : ℕ) (few : List ℕ) → list_any (λ x. x == b) few ≡ false → IsIn b few → ⊥
not_there b few none i = differ b b (none_passes (λ x. x == b) few b none i) refl

pub is_there : (b : ℕ) (few : List ℕ) → list_any (λ x. x == b) few ≡ true → IsIn b few
is_there b few some =
    let r = any_gives (λ x. x == b) few some in subst (λ (x : ℕ). IsIn x few) (equal r.0 b r.2) r.1

pub not_left : (b c : ℕ) (few ks : List ℕ) → few ≡ without b ks → b ≡ c → IsIn c few → ⊥
not_left b c few ks is same i = (from_without b ks c (subst (λ (xs : List ℕ). IsIn c xs) is i)).1 (sym same)

pub not_said : (I : Instance) (C : ℕ) (at : Looking) (line : Line) (few : List ℕ) (b : ℕ) →
    b ≡ next_member at → IsIn b at.named.items → IsEnd at.log line → few ≡ without b at.named.items →
    (IsStackOver I C line few → ⊥) → IsUnknown I C at
not_said I C at line few b is present end without_it not_over = record {
  named = subst (λ (x : ℕ). IsIn x at.named.items) is present;
  not_over = λ other e h. let same : other ≡ line = same_some (sym e ∙ end) in
      not_over (subst (λ (m : Line). IsStackOver I C m few) same
      (subst (λ (xs : List ℕ). IsStackOver I C other xs) (sym (without_it ∙ ap (λ n. without n at.named.items) is)) h));
}
