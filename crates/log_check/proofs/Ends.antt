-- The end of a log, among the lines that were taken from a text.
use Rattle.std.proofs.Common.{◌≡◌, ℕ, zero, suc, true, List, [], ◌∷◌, map, Option, Some, None, slice_get, option_map, refl, sym, ap, ◌∙◌}
use Rattle.dsa_terms.specs.Buffers.{Instance}
use Rattle.dsa_terms.specs.Claims.{Claim, IsWhole}
use Rattle.dsa_terms.specs.Logs.{Line, claim_of}
use Rattle.canonical_order.specs.Claims.{is_above_floor, least_buffer}
use Rattle.canonical_order.proofs.Wholes.{whole_exactly}
use Rattle.log_text.specs.declared.raw.RawLine.{RawLine}
use Rattle.log_check.specs.declared.fault.CheckFault.TheVariants as fault
use Rattle.log_check.specs.Faults.{end_fault, line_of}

-- the line of the text at a place where a line was taken
line_at : (lines : List RawLine) (end : ℕ) (line : Line) → slice_get (map line_of lines) end ≡ Some line →
    (x : RawLine) × (slice_get lines end ≡ Some x) × (line ≡ line_of x)
line_at [] end line h = absurd cc
line_at (x ∷ xs) zero line h = (x, refl, let e : line_of x ≡ line = cc in sym e)
line_at (x ∷ xs) (suc end) line h = line_at xs end line h

text_at : (lines : List RawLine) (taken : List Line) (end : ℕ) (line : Line) (claim : Claim) →
    taken ≡ map line_of lines → slice_get taken end ≡ Some line → claim ≡ claim_of line →
    (x : RawLine) × (slice_get lines end ≡ Some x) × (claim ≡ claim_of (line_of x))
text_at lines taken end line claim e at q =
    let r = line_at lines end line (ap (λ ls. slice_get ls end) (sym e) ∙ at) in
    (r.0, r.1, q ∙ ap claim_of r.2)

module _ (I : Instance) (end : ℕ) (lines : List RawLine) (taken : List Line) (line : Line) (claim : Claim)
    (e : taken ≡ map line_of lines) (at : slice_get taken end ≡ Some line) (q : claim ≡ claim_of line) where
  -- what is said of the end's claim is the fault of the text's end
  pub end_says : (answer : Option ℕ) → answer ≡ least_buffer (is_above_floor I) claim →
      end_fault I end (slice_get lines end) ≡ option_map (fault.EndNotWhole end) answer
  end_says answer h =
      let r = text_at lines taken end line claim e at q in
      ap (end_fault I end) r.1
      ∙ ap (option_map (fault.EndNotWhole end)) (sym (h ∙ ap (least_buffer (is_above_floor I)) r.2))

-- a claim without a bound above a floor is whole
pub is_whole : (I : Instance) (claim : Claim) → None ≡ least_buffer (is_above_floor I) claim → IsWhole I claim
is_whole I claim h = (whole_exactly I claim None true h refl).0 refl
