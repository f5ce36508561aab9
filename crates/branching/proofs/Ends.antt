-- Which buffers another one ends below, by the least end of the claim.
use Rattle.std.proofs.Common.{◌≡◌, ◌≢◌, ◌⊎◌, [], ◌∷◌, inl, inr, ℕ, ◌+◌, ◌<◌, ◌≤◌, ◌^◌, ◌==◌, ◌&&◌, Bool, true, false, not, nat_le, List, length, refl, sym, ap, subst, arith}
use Rattle.std.specs.List.{list_any}
use Rattle.branching.proofs.Words.{Instance, IsInstance, buffer, Claim, Entry, IsClaim, IsIn, Rises, buffers_of, up, ends_below, any_gives, true_or_false, sound, in_buffers, HasBuffer, entry_of, entry_in, is_entry, apart, is_at_most, not_at_most}
use Rattle.conflicts.specs.Ends.{end_of}
use Rattle.branching.specs.declared.ending.Ending.{Ending}
use Rattle.branching.specs.Endings.{IsLeastEnding}

-- ---- the loop over the buffers

-- no buffer of the claim ends below x, but for those that are left; x ends where its buffer does
pub record IsLeastBut (I : Instance) (l left : Claim) (x : Ending) : Type 0 where
  pub least : (e : Entry) → IsIn e l → IsIn e left ⊎ (x.end ≤ end_of I e)
  pub is_end : x.end < 2 ^ 63 → HasBuffer l x.buffer × (x.end ≡ end_of I (entry_of l x.buffer))

module _ (I : Instance) (l left rest : Claim) (e : Entry) (x : Ending) (s : left ≡ e ∷ rest)
    (h : IsLeastBut I l left x) where
  pub least_keep : x.end ≤ end_of I e → IsLeastBut I l rest x
  least_keep le = record {
    least = λ f i. elim (h.least f i) [
      | inl j ↦ elim (subst (IsIn f) s j) [
        | inl p ↦ inr (subst (λ (e : Entry). x.end ≤ end_of I e) (sym p) le)
        | inr k ↦ inl k
      ]
      | inr m ↦ inr m
    ];
    is_end = h.is_end;
  }

  pub least_take : (y : Ending) → Rises (buffers_of l) → IsIn e l → y.buffer ≡ e.0 →
      y.end ≡ end_of I (entry_of l e.0) → y.end < x.end → IsLeastBut I l rest y
  least_take y r i n q less = record {
    least = λ f j. elim (h.least f j) [
      | inl k ↦ elim (subst (IsIn f) s k) [
        | inl p ↦ inr (subst (λ (e : Entry). y.end ≤ end_of I e) (sym p) here)
        | inr m ↦ inl m
      ]
      | inr m ↦ inr (omega arith)
    ];
    is_end = λ lt. subst (λ (b : ℕ). HasBuffer l b × (y.end ≡ end_of I (entry_of l b))) (sym n) (in_buffers l e i, q);
  }
    where
      here : y.end ≤ end_of I e
      here = let k = ap (end_of I) (is_entry l e r i) in omega arith

pub least_of_all : (I : Instance) (l left : Claim) (x : Ending) → left ≡ [] → IsLeastBut I l left x →
    IsLeastEnding I l (length I) x
least_of_all I l left x q h = record {
  least = λ e i lt. elim (h.least e i) [
    | inl j ↦ absurd (subst (IsIn e) q j)
    | inr le ↦ le
  ];
  is_end = h.is_end;
}

-- ---- what the least end says of a buffer of the claim
pub no_any : {X : Type 0} (p : X → Bool) (xs : List X) → ((x : X) → IsIn x xs → p x ≡ false) → list_any p xs ≡ false
no_any p xs h = elim (true_or_false (list_any p xs)) [
  | inl t ↦ absurd (let r = any_gives p xs t in let k = h r.0 r.1 in let q = r.2 in cc)
  | inr f ↦ f
]

and_false : (b : Bool) → (b && false) ≡ false
and_false true = refl
and_false false = refl

module _ (I : Instance) (l : Claim) (x : Ending) (b : ℕ) (h : IsLeastEnding I l (length I) x) where
  pub least_is_below : IsInstance I → x.end ≤ up I (entry_of l b) → up I (entry_of l b) < 2 ^ 62 →
      (f : Entry) × IsIn f l × (f.0 ≡ x.buffer) × (ends_below I f (entry_of l b) ≡ true)
  unfolding ends_below end_of
  least_is_below s le limit =
      let r = h.is_end (omega arith) in
      let e = r.1 in
      let t : nat_le (up I (entry_of l x.buffer) + (buffer I x.buffer).size) (up I (entry_of l b)) ≡ true =
      is_at_most (up I (entry_of l x.buffer) + (buffer I x.buffer).size) (up I (entry_of l b)) (omega arith) in
      (entry_of l x.buffer, entry_in l x.buffer r.0, refl, (rw (apart x.buffer b other, t) refl))
    where
      other : x.buffer ≢ b
      other q =
          let r = h.is_end (omega arith) in
          let e = r.1 in
          let u = ap (λ b. up I (entry_of l b)) q in
          let n = (sound I x.buffer s).0 in
          omega arith

  pub none_is_below : IsClaim I l → up I (entry_of l b) < x.end →
      list_any (λ f. ends_below I f (entry_of l b)) l ≡ false
  unfolding ends_below end_of
  none_is_below claim lt = no_any (λ f. ends_below I f (entry_of l b)) l (λ f j.
      let k = h.least f j (claim.in_range f j) in
      let t : nat_le (up I f + (buffer I f.0).size) (up I (entry_of l b)) ≡ false =
      not_at_most (up I f + (buffer I f.0).size) (up I (entry_of l b)) (omega arith) in
      rw t (and_false (not (f.0 == b))))
