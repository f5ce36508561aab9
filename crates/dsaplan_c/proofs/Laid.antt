-- What the answers on the least capacity say of the offsets.
use Rattle.std.proofs.Common.{◌≡◌, ◌≤◌, ◌∙◌, ℕ, List, Option, ap, arith, subst, sym}
use Rattle.dsa_terms.specs.Layouts.{IsLayout}
use Rattle.dsa_plan.specs.Arrays.{Arrays, instance_of}
use Rattle.dsa_plan.specs.Plans.{IsLeastAnswer}
use Rattle.dsa_plan.specs.Packed.{IsPackAnswer}
use Rattle.dsa_plan.specs.declared.answers.LeastAnswer.{LeastAnswer}
use Rattle.dsa_plan.specs.declared.answers.LeastAnswer.TheVariants.{Least, Open, LengthsDiffer, TooMany, BadBuffer, NoMemory}
use Rattle.dsaplan_c.specs.Told.{least_detail, least_status}
use Rattle.dsaplan_c.specs.declared.detail.Detail.{Detail}

-- with a status of at most 2 they are a layout of the upper end's height
pub laid : (a : Arrays) (steps : Option ℕ) (offsets : List ℕ) (answer : LeastAnswer) →
    IsLeastAnswer (instance_of a) steps offsets answer → least_status answer ≤ 2 →
    IsLayout (instance_of a) (least_detail answer).high offsets
laid a steps offsets (Least C) h le = h.plan.layout
laid a steps offsets (Open low high) h le = h.plan.layout
laid a steps offsets LengthsDiffer h le = absurd (omega (arith, le))
laid a steps offsets TooMany h le = absurd (omega (arith, le))
laid a steps offsets (BadBuffer b f) h le = absurd (omega (arith, le))
laid a steps offsets NoMemory h le = absurd (omega (arith, le))

-- the same of what packing answers
pub packed : (a : Arrays) (steps : ℕ) (offsets : List ℕ) (answer : LeastAnswer) →
    IsPackAnswer (instance_of a) steps offsets answer → least_status answer ≤ 2 →
    IsLayout (instance_of a) (least_detail answer).high offsets
packed a steps offsets (Least C) h le = h.layout
packed a steps offsets (Open low high) h le = h.layout
packed a steps offsets LengthsDiffer h le = absurd (omega (arith, le))
packed a steps offsets TooMany h le = absurd (omega (arith, le))
packed a steps offsets (BadBuffer b f) h le = absurd (omega (arith, le))
packed a steps offsets NoMemory h le = absurd (omega (arith, le))

-- the same of what stands for them
carried : (a b : Arrays) (offsets new : List ℕ) (answer told : LeastAnswer) (status : ℕ) (detail : Detail) → a ≡ b →
    new ≡ offsets → told ≡ answer → status ≡ least_status told → detail ≡ least_detail told →
    (least_status answer ≤ 2 → IsLayout (instance_of a) (least_detail answer).high offsets) → status ≤ 2 →
    IsLayout (instance_of b) detail.high new
carried a b offsets new answer told status detail e f g s d h le =
    let le_answer : least_status answer ≤ 2 = (let t = ap least_status g in omega arith) in
    let high : detail.high ≡ (least_detail answer).high = ap (λ (x : Detail). x.high) (d ∙ ap least_detail g) in
    subst (λ (k : Arrays). IsLayout (instance_of k) detail.high new) e
    (subst (λ (k : ℕ). IsLayout (instance_of a) k new) (sym high)
    (subst (λ (l : List ℕ). IsLayout (instance_of a) (least_detail answer).high l) (sym f) (h le_answer)))

pub laid_as : (a b : Arrays) (steps : Option ℕ) (offsets new : List ℕ) (answer told : LeastAnswer) (status : ℕ)
    (detail : Detail) → a ≡ b → new ≡ offsets → told ≡ answer → status ≡ least_status told →
    detail ≡ least_detail told → IsLeastAnswer (instance_of a) steps offsets answer → status ≤ 2 →
    IsLayout (instance_of b) detail.high new
laid_as a b steps offsets new answer told status detail e f g s d h =
    carried a b offsets new answer told status detail e f g s d (laid a steps offsets answer h)

pub packed_as : (a b : Arrays) (steps : ℕ) (offsets new : List ℕ) (answer told : LeastAnswer) (status : ℕ)
    (detail : Detail) → a ≡ b → new ≡ offsets → told ≡ answer → status ≡ least_status told →
    detail ≡ least_detail told → IsPackAnswer (instance_of a) steps offsets answer → status ≤ 2 →
    IsLayout (instance_of b) detail.high new
packed_as a b steps offsets new answer told status detail e f g s d h =
    carried a b offsets new answer told status detail e f g s d (packed a steps offsets answer h)
