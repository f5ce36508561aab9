-- Claims that are said after the lines before them.
use Rattle.std.proofs.Common.{◌≡◌, ◌<◌, ℕ, zero, suc, List, [], ◌∷◌, length, get_or, map, All, refl, sym, ap, ◌∙◌, subst, arith}
use Rattle.dsa_terms.specs.Claims.{Claim, Rises, buffers_of}
use Rattle.log_text.specs.Changes.{AreChanges, Change, carried_out}
use Rattle.log_text.specs.RawLogs.{IsRawLineKept, raw_claim_of}
use Rattle.log_text.specs.Rows.{IsClaimSaid, IsUnsaid}
use Rattle.log_text.specs.Says.{HasSpellingBase, HasSpellingChanges}
use Rattle.log_text.specs.Spellings.{From, Spelling, claim_at, claim_said}
use Rattle.log_text.specs.declared.raw.RawLine.{RawLine}
use Rattle.log_text.specs.declared.said.Unsaid.TheVariants as unsaid
use Rattle.log_text.proofs.Saying.{claim_at_kept}

pub map_map : {X Y Z : Type 0} (f : Y → Z) (g : X → Y) (xs : List X) → map f (map g xs) ≡ map (λ x. f (g x)) xs
map_map f g [] = refl
map_map f g (x ∷ xs) = ap (λ zs. f (g x) ∷ zs) (map_map f g xs)

-- the claim of the line at that place
pub claim_there : (lines : List RawLine) (k : ℕ) (d : RawLine) → k < length lines →
    raw_claim_of (get_or lines k d) ≡ claim_at lines k
claim_there [] k d h = absurd (omega arith)
claim_there (line ∷ lines) zero d h = refl
claim_there (line ∷ lines) (suc k) d h = claim_there lines k d (omega arith)

-- it rises
pub base_rises : (lines : List RawLine) (k : ℕ) (l : Claim) → k < length lines → All IsRawLineKept lines →
    l ≡ claim_at lines k → Rises (buffers_of l)
base_rises lines k l h a e = subst (λ (m : Claim). Rises (buffers_of m)) (sym e) (claim_at_kept lines k h a).rising

pub no_base_said : (lines : List RawLine) (s : Spelling) (k : ℕ) (changes : List Change) → s ≡ From k changes →
    (k < length lines → ⊥) → IsUnsaid lines s unsaid.NoBase
no_base_said lines s k changes q h = λ b. h (subst (λ (x : Spelling). HasSpellingBase lines x) q b)

pub no_change_said : (lines : List RawLine) (s : Spelling) (k : ℕ) (l : Claim) (changes : List Change) →
    s ≡ From k changes → k < length lines → l ≡ claim_at lines k → (AreChanges l changes → ⊥) →
    IsUnsaid lines s unsaid.NoChange
no_change_said lines s k l changes q h e n = (
  subst (λ (x : Spelling). HasSpellingBase lines x) (sym q) h,
  λ c. n (subst (λ (x : Claim). AreChanges x changes) (sym e)
      (subst (λ (x : Spelling). HasSpellingChanges lines x) q c)),
)

pub is_claim_said : (lines : List RawLine) (s : Spelling) (k : ℕ) (l m : Claim) (changes : List Change) →
    s ≡ From k changes → k < length lines → l ≡ claim_at lines k → m ≡ carried_out l changes → AreChanges l changes →
    IsClaimSaid lines s m
is_claim_said lines s k l m changes q h e t a = record {
  base = subst (λ (x : Spelling). HasSpellingBase lines x) (sym q) h;
  changes = subst (λ (x : Spelling). HasSpellingChanges lines x) (sym q)
      (subst (λ (x : Claim). AreChanges x changes) e a);
  claim_is = t ∙ (ap (λ (x : Claim). carried_out x changes) e ∙ ap (λ (x : Spelling). claim_said lines x) (sym q));
}
