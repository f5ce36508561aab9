-- The Cases line of some of a claim's buffers with no higher bounds.
use Rattle.std.proofs.Common.{◌≡◌, ℕ, ◌^◌, ◌<◌, ◌≤◌, List, Option, Some, None, Result, IfOk, IfSome, length, refl, arith}
use Rattle.std.proofs.lemmas.Option.{slice_get_within}
use Rattle.std.proofs.lemmas.Result.{IfOk-weaker}
use Rattle.std.specs.List.{AllZip}
use Rattle.dsa_terms.specs.Buffers.{Instance}
use Rattle.dsa_terms.specs.Claims.{Claim, Entry, Rises, buffers_of}
use Rattle.dsa_terms.specs.Lean.{CitesOwn}
use Rattle.dsa_terms.specs.Logs.{Cite, ByLine, Below, Twin, Line, Cases, IsLegalCite}
use Rattle.canonical_order.specs.Claims.{IsBoundedBy}
use Rattle.canonical_order.specs.Stands.{Stands}
use Rattle.refute_log.specs.Lines.{IsCiteWithin}
use Rattle.conflicts.specs.Eased.{IsLower, IsLowerCases}
use Rattle.conflicts.proofs.Easings.{IsEased}
use Rattle.conflicts.proofs.ListSteps.{zip_second}
use Rattle.conflicts.proofs.LowerClaims.{length_some, lower_again, lower_bounded, lower_covers, lower_self, lower_stands}

-- the number of a legal cite is within the limit
cite_within : (I : Instance) (earlier : List Line) (k : Claim) → Stands I k → length earlier ≤ 2 ^ 60 → (e : Entry)
    (cite : Cite) → IsLegalCite I earlier k e cite → IsCiteWithin cite
cite_within I earlier k s le e (ByLine n) c = let lt = slice_get_within earlier n c.0 c.1 in omega arith
cite_within I earlier k s le e (Below b) c =
    let lt = s.claim.in_range c.0 c.1 in let n = s.count in let q = c.2 in omega arith
cite_within I earlier k s le e (Twin b) c =
    let lt = s.claim.in_range c.0 c.1 in let n = s.count in let q = c.2 in omega arith

module _ (I : Instance) (C : ℕ) (earlier : List Line) (l : Claim) (cites : List Cite) (s : Stands I l)
    (b : IsBoundedBy (2 ^ 60) l) (le : length earlier ≤ 2 ^ 60) where
  pub cases_eased : (line : Line) → IsLowerCases I earlier l line → IsEased I C earlier (Cases l cites) line
  cases_eased line h = rw h.is (record {
    legal = record {
      claim = (lower_stands I l h.claim s h.lower).claim;
      not_empty = h.some;
      reason = h.legal;
    };
    within = (
      lower_bounded I l h.claim s h.lower (2 ^ 60) b,
      zip_second (IsLegalCite I earlier h.claim) IsCiteWithin h.claim h.cites
          (cite_within I earlier h.claim (lower_stands I l h.claim s h.lower) le) h.legal,
    );
    covers = lower_covers I l h.claim s h.lower;
    lean = h.own;
  })

-- the answer of a call that gives such a line
pub if_lower : {X E : Type 0} (v : X → Line) (r : Result X E) (I : Instance) (C : ℕ) (earlier : List Line) (l : Claim)
    (cites : List Cite) → Stands I l → IsBoundedBy (2 ^ 60) l → length earlier ≤ 2 ^ 60 →
    IfOk r (λ x. IsLowerCases I earlier l (v x)) → IfOk r (λ x. IsEased I C earlier (Cases l cites) (v x))
if_lower v r I C earlier l cites s b le h =
    IfOk-weaker r (λ x. IsLowerCases I earlier l (v x)) (λ x. IsEased I C earlier (Cases l cites) (v x))
    (λ x q. cases_eased I C earlier l cites s b le (v x) q) h

-- a line of a claim that is lower than another one
pub lower_line : (I : Instance) (earlier : List Line) (l k : Claim) (line : Line) → IsLower l k →
    IsLowerCases I earlier k line → IsLowerCases I earlier l line
lower_line I earlier l k line p h = record {
  claim = h.claim;
  cites = h.cites;
  is = h.is;
  some = h.some;
  lower = lower_again l k h.claim p h.lower;
  legal = h.legal;
  own = h.own;
}

pub lower_whole : {X E : Type 0} (v : X → Line) (r : Result X E) (I : Instance) (earlier : List Line) (l k : Claim) →
    IsLower l k → IfOk r (λ x. IsLowerCases I earlier k (v x)) → IfOk r (λ x. IsLowerCases I earlier l (v x))
lower_whole v r I earlier l k p h =
    IfOk-weaker r (λ x. IsLowerCases I earlier k (v x)) (λ x. IsLowerCases I earlier l (v x))
    (λ x q. lower_line I earlier l k (v x) p q) h

pub lower_answer : {X E : Type 0} (v : X → Line) (r : Result (Option X) E) (I : Instance) (earlier : List Line)
    (l k : Claim) → IsLower l k → IfOk r (λ a. IfSome a (λ x. IsLowerCases I earlier k (v x))) →
    IfOk r (λ a. IfSome a (λ x. IsLowerCases I earlier l (v x)))
lower_answer {X = X} v r I earlier l k p h =
    IfOk-weaker r (λ a. IfSome a (λ x. IsLowerCases I earlier k (v x)))
    (λ a. IfSome a (λ x. IsLowerCases I earlier l (v x))) go h
  where
    go : (a : Option X) → IfSome a (λ x. IsLowerCases I earlier k (v x)) →
        IfSome a (λ x. IsLowerCases I earlier l (v x))
    go None q = q
    go (Some x) q = lower_line I earlier l k (v x) p q

-- the line of a claim with these cites, which are legal and eased
pub line_is_lower : (I J : Instance) (earlier : List Line) (l k : Claim) (cites : List Cite) → J ≡ I → k ≡ l →
    Rises (buffers_of l) → 0 < length l → AllZip (IsLegalCite J earlier k) k cites → AllZip (CitesOwn J k) k cites →
    IsLowerCases I earlier l (Cases l cites)
line_is_lower I J earlier l k cites p q r lt z o = record {
  claim = l;
  cites = cites;
  is = refl;
  some = length_some l lt;
  lower = lower_self l r;
  legal = rw (p, q) at z;
  own = rw (p, q) at o;
}
