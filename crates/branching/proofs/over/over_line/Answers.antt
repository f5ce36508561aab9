use Rattle.std.proofs.Common.{◌∙◌, sym, arith}
use Rattle.branching.proofs.Words.{buffer, claim_of, live_before, line_value, last_claim}
use Rattle.dsa_model.proofs.Instances.{sound_buffer}
use Rattle.branching.proofs.FullSections.{full_is_legal, full_section, some_live}
use Rattle.branching.proofs.LiftedClaims.{covers_lifted, lifted_stands}
use Rattle.branching.proofs.Searching.{tall_covers, tall_in_range}
use Rattle.branching.proofs.over.over_line.Goals as goal

-- ---- a tall buffer
pub tall_line-requires : goal.tall_line-requires
tall_line-requires c =
    let I = c.args.task.now.instance.now in
    let C = c.args.task.now.capacity in
    let l = last_claim c.args.sky.now.claims in
    let s = rw (c.instance.ensures.value, c.requires.subject) at c.instance.ensures.stands in
    let t = c.in-Some.ensures l c.requires.levels in
    tall_in_range I C l c.in-Some.b s.claim t

pub returns-in-Some-clause-some : goal.returns-in-Some-clause-some
returns-in-Some-clause-some c =
    let I = c.args.task.now.instance.now in
    let C = c.args.task.now.capacity in
    let l = last_claim c.args.sky.now.claims in
    let t = c.in-Some.ensures l c.requires.levels in
    record {
      legal = c.in_ok-tall_line.ensures.legal;
      within = c.in_ok-tall_line.ensures.within;
      covers = tall_covers I C l (claim_of (line_value c.in_ok-tall_line.field-0)) c.in-Some.b t
          c.in_ok-tall_line.ensures.claim;
    }

-- ---- no Over line
pub returns-in-None-clause-none : goal.returns-in-None-clause-none
returns-in-None-clause-none c =
    sym c.in_default.is ∙ c.tall.ensures (last_claim c.args.sky.now.claims) c.requires.levels

-- ---- a section that is too full
pub returns-in_ok-claim-in-Some-overloaded_at-clause-some : goal.returns-in_ok-claim-in-Some-overloaded_at-clause-some
returns-in_ok-claim-in-Some-overloaded_at-clause-some c =
    let I = c.args.task.now.instance.now in
    let C = c.args.task.now.capacity in
    let l = last_claim c.args.sky.now.claims in
    let S = c.args.sky.now.sections in
    let T = c.in-Some-overloaded_at.moment in
    let H = c.in-Some-overloaded_at.height in
    let s = rw (c.instance.ensures.value, c.requires.subject) at c.instance.ensures.stands in
    let q = c.in_ok-claim-in-Some-overloaded_at.ensures.value I l c.requires.levels in
    let low = rw q at c.in_ok-claim-in-Some-overloaded_at.ensures.low in
    let v = rw c.requires.subject at c.in-Some-overloaded_at.ensures.value in
    let p = rw c.requires.subject at c.in-Some-overloaded_at.ensures.belongs in
    let f = full_section I S l C T H (sym v) in
    let st = lifted_stands I l s low in
    let live = some_live I S l C T H _ p s f.1 in
    let before = live_before (buffer I live.0) T live.2 in
    let last = (sound_buffer I live.0 s.buffers live.1).upper_limit in
    let h = c.in-Some-overloaded_at.ensures.limit in
    rw q (record {
      legal = λ earlier. full_is_legal I S l C T H _ p s f.1 earlier st.claim;
      within = (low, omega (arith, before, last), omega (arith, h), omega arith);
      covers = covers_lifted I l;
    })
