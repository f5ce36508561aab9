-- Claims with no higher bounds.
use Rattle.std.proofs.Common.{◌≡◌, ◌≢◌, ℕ, ◌<◌, ◌≤◌, ◌^◌, Bool, List, [], ◌∷◌, filter, length, map, inl, inr, sym, refl, ◌∙◌, arith}
use Rattle.std.specs.List.{AllZip}
use Rattle.dsa_model.proofs.Instances.{sound_buffer}
use Rattle.dsa_terms.specs.Buffers.{Instance, buffer}
use Rattle.dsa_terms.specs.Claims.{Claim, Covers, Entry, IsIn, Rises, buffers_of, up}
use Rattle.dsa_terms.proofs.Lists.{from_filter}
use Rattle.dsa_terms.proofs.Numbers.{next_at_or_above}
use Rattle.dsa_search_laws.proofs.Claims.{rises-filter}
use Rattle.canonical_order.specs.Stands.{Stands}
use Rattle.conflicts.specs.Eased.{IsLower, IsNoHigher, cut}

same_buffers : (l k : Claim) → AllZip IsNoHigher l k → buffers_of k ≡ buffers_of l
same_buffers [] [] z = refl
same_buffers [] (y ∷ ys) z = absurd z
same_buffers (x ∷ xs) [] z = absurd z
same_buffers (x ∷ xs) (y ∷ ys) z = rw (z.0.0, same_buffers xs ys z.1) refl

-- ---- some of the buffers, with no higher bounds
pub zip_lower : (l k : Claim) → Rises (buffers_of l) → AllZip IsNoHigher l k → IsLower l k
zip_lower l k r z = record { rises = rw (same_buffers l k z) r; each = go l k z }
  where
    go : (l k : Claim) → AllZip IsNoHigher l k → (f : Entry) → IsIn f k → (e : Entry) × IsIn e l × IsNoHigher e f
    go [] [] z f i = absurd i
    go [] (y ∷ ys) z f i = absurd z
    go (x ∷ xs) [] z f i = absurd i
    go (x ∷ xs) (y ∷ ys) z f (inl q) = (x, inl refl, rw q z.0)
    go (x ∷ xs) (y ∷ ys) z f (inr i) = let r = go xs ys z.1 f i in (r.0, inr r.1, r.2)

pub lower_self : (l : Claim) → Rises (buffers_of l) → IsLower l l
lower_self l r = record { rises = r; each = λ f i. (f, i, (refl, omega arith)) }

pub lower_again : (l k m : Claim) → IsLower l k → IsLower k m → IsLower l m
lower_again l k m p q = record {
  rises = q.rises;
  each = λ f i.
      let a = q.each f i in
      let b = p.each a.0 a.1 in
      let c = a.2.1 in
      let d = b.2.1 in
      (b.0, b.1, (a.2.0 ∙ b.2.0, omega arith));
}

pub lower_filter : (p : Entry → Bool) (l : Claim) → Rises (buffers_of l) → IsLower l (filter p l)
lower_filter p l r = record {
  rises = rises-filter p l r;
  each = λ f i. (f, (from_filter p l f i).0, (refl, omega arith));
}

pub length_some : (l : Claim) → 0 < length l → l ≢ []
length_some [] lt = absurd (omega arith)
length_some (x ∷ xs) lt = λ q. cc

module _ (I : Instance) (l k : Claim) (s : Stands I l) (h : IsLower l k) where
  pub lower_bounded : (n : ℕ) → ((e : Entry) → IsIn e l → e.1 ≤ n) → (e : Entry) → IsIn e k → e.1 ≤ n
  lower_bounded n b e i = let q = h.each e i in let p = b q.0 q.1 in let r = q.2.1 in omega arith

  pub lower_stands : Stands I k
  lower_stands = record {
    claim = record {
      rises = h.rises;
      in_range = λ e i. let q = h.each e i in rw q.2.0 (s.claim.in_range q.0 q.1);
    };
    bounds = lower_bounded (2 ^ 61) s.bounds;
    buffers = s.buffers;
    count = s.count;
  }

  pub lower_covers : Covers I k l
  unfolding up
  lower_covers e i =
      let q = h.each e i in
      let b = sound_buffer I q.0.0 s.buffers (s.claim.in_range q.0 q.1) in
      let above = next_at_or_above q.0.1 (buffer I q.0.0).alignment b.sound.1 in
      let r = q.2.1 in
      (q.0, q.1, sym q.2.0, omega arith)

-- ---- what is needed, where that is lower
cut_lower : (needs : List ℕ) (l : Claim) → AllZip IsNoHigher l (map (cut needs) l)
cut_lower needs [] = tt
cut_lower needs (x ∷ xs) = ((refl, omega arith), cut_lower needs xs)

pub cut_is_lower : (needs : List ℕ) (l : Claim) → Rises (buffers_of l) → IsLower l (map (cut needs) l)
cut_is_lower needs l r = zip_lower l (map (cut needs) l) r (cut_lower needs l)
