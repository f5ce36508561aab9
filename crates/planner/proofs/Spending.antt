-- A spent budget: a number of steps was given, and it is below the work.
use Rattle.std.proofs.Common.{◌≡◌, ℕ, ◌+◌, ◌<◌, ◌≤◌, ◌^◌, Option, Some, None, refl, ap, ◌∙◌, subst, arith}
use Rattle.std.specs.List.{All}
use Rattle.dsa_terms.specs.Buffers.{Instance}
use Rattle.dsa_terms.specs.Parts.{whole_work}
use Rattle.dsa_model.specs.Buffer.{IsBuffer}
use Rattle.refute_log.specs.Decided.{answer_of, IfSpent, IsRight}
use Rattle.refute_log.specs.declared.decided.Decided.{Decided}
use Rattle.refute_log.specs.declared.decided.Decided.TheVariants.{Layout, Refuted, Spent}
use Rattle.search_core.specs.Courses.{at_start, Course}
use Rattle.search_core.specs.Decisions.{allowance_of, IsGiven}
use Rattle.planner.specs.Openings.{AreTooFew}
use Rattle.planner.specs.Searches.{EndsSearch}
use Rattle.planner.proofs.Refuting.{search_refutes}

few_of : (steps : Option ℕ) (used work : ℕ) → allowance_of steps ≤ used → used < work → used < 2 ^ 64 →
    AreTooFew steps work
few_of None used work all lt range = absurd (omega arith)
few_of (Some k) used work all lt range = record { number = k; given = refl; below_work = omega arith }

-- of a search with these steps that had not begun, once all of them are used
pub too_few : (I : Instance) (steps budget : Option ℕ) (before : Course) (used work : ℕ) → before ≡ at_start I budget →
    budget ≡ steps → allowance_of before.units.most ≤ used → used < before.units.used + work → used < 2 ^ 64 →
    AreTooFew steps work
too_few I steps budget before used work e q all lt range =
    let m : before.units.most ≡ steps = ap (λ (v : Course). v.units.most) e ∙ q in
    let z : before.units.used ≡ 0 = ap (λ (v : Course). v.units.used) e in
    let P : Option ℕ → Type 0 = λ o. allowance_of o ≤ used in
    few_of steps used work (subst P m all) (omega arith) range

-- what one search comes to
pub search_ends : (I : Instance) (C : ℕ) (steps budget : Option ℕ) (before : Course) (used : ℕ) (d : Decided) →
    All IsBuffer I → before ≡ at_start I budget → budget ≡ steps → IsRight before.subject C d →
    IsGiven before.subject C (answer_of d) → IfSpent d (allowance_of before.units.most ≤ used) →
    IfSpent d (used < before.units.used + whole_work before.subject C) → used < 2 ^ 64 → EndsSearch I C steps d
search_ends I C steps budget before used (Layout offsets) buffers e q right given all lt range =
    let s : before.subject ≡ I = ap (λ (v : Course). v.subject) e in
    record { chosen = rw s at given; layout = rw s at right }
search_ends I C steps budget before used (Refuted log) buffers e q right given all lt range =
    let s : before.subject ≡ I = ap (λ (v : Course). v.subject) e in search_refutes I C log buffers (rw s at given)
search_ends I C steps budget before used Spent buffers e q right given all lt range =
    let s : before.subject ≡ I = ap (λ (v : Course). v.subject) e in
    too_few I steps budget before used (whole_work I C) e q all (rw s at lt) range
