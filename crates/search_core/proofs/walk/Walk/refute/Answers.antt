use Rattle.std.proofs.Common.{◌≡◌, arith, map, ap, sym, ◌∙◌, length}
use Rattle.claim_levels.proofs.Leveling.{lifted_levels}
use Rattle.claim_levels.specs.Lifted.{lifted}
use Rattle.branching.specs.Trying.{refuted_buffer}
use Rattle.branching.proofs.Descent.{is_instance}
use Rattle.branching.proofs.LiftedClaims.{covered_from_lifted, lifted_covered, lifted_extends, lifted_fresh, lifted_noted, lifted_stands, lifted_nothing}
use Rattle.branching.proofs.Searching.{all_refuted, each_noted, refuted_in}
use Rattle.search_core.specs.Descents.{claim_at}
use Rattle.search_core.specs.Walks.{place_of}
use Rattle.search_core.proofs.Words.{AreLevels, Stands}
use Rattle.search_core.proofs.Descending.{ahead_covered}
use Rattle.search_core.proofs.Watched.{above_more, levels_here}
use Rattle.search_core.proofs.walk.Walk.refute.Goals.{In_ok-claim}
use Rattle.search_core.proofs.walk.Walk.refute.Goals as goal

stands : (c : In_ok-claim) → Stands c.args.task.now.instance.now (claim_at (place_of c.args.self.now))
stands c = rw (c.instance.ensures.value, c.requires.ready.opened.path.subject) at c.instance.ensures.stands

levels : (c : In_ok-claim) → AreLevels c.args.task.now.instance.now (claim_at (place_of c.args.self.now))
    c.levels-levels.result
levels c = rw c.levels-levels.ensures
    (levels_here _ _ _ c.args.self.now c.requires.ready.opened.path c.requires.watched (stands c).claim)

-- the claim is made with its lows as bounds
made : (c : In_ok-claim) → c.in_ok-claim.claim ≡ lifted c.args.task.now.instance.now
    (claim_at (place_of c.args.self.now))
made c = c.in_ok-claim.ensures.value _ _ (levels c)

pub refute-requires : goal.refute-requires
refute-requires c =
    let I = c.args.task.now.instance.now in
    let l = claim_at (place_of c.args.self.now) in
    let d = (goal.at.refute-requires c).In_ok-claim in
    let f = c.args.frame.now in
    let t = c.requires.ready.opened.trying in
    let s = stands d in
    let i = is_instance I l s in
    let q = made d in
    record {
      levels = rw q (lifted_levels I l _ i (levels d));
      stands = rw q (lifted_stands I l s (rw q at c.in_ok-claim.ensures.low));
      low = c.in_ok-claim.ensures.low;
      not_empty = λ e. c.requires.ready.opened.not_empty (lifted_nothing I l (sym (ap length q) ∙ ap length e));
      noted = rw (q, c.refuted.ensures)
          (lifted_noted I l (map refuted_buffer f.refuted) i (each_noted I _ l _ f t c.requires.done));
      covered = rw (q, c.refuted.ensures) (λ r j. lifted_covered I _ l r i s.claim.rises (refuted_in I _ l _ f t r j)
          (t.covered r j));
      log = c.requires.log;
      fresh = rw q (lifted_fresh I _ l i c.requires.ready.fresh);
    }

pub returns : goal.returns
returns c =
    let I = c.args.task.now.instance.now in
    let l = claim_at (place_of c.args.self.now) in
    let d = (goal.at.returns c).In_ok-claim in
    let o = c.requires.ready.opened in
    let grown = lifted_extends I l _ _ (rw (made d) at c.in_ok-line.ensures.grown) in
    record {
      log = c.in_ok-line.ensures.log;
      grown = grown;
      ahead = ahead_covered I _ l _ _ _ c.args.frame.now c.in_ok-line.line grown o.path (record {
        none = all_refuted I _ l _ c.args.frame.now o.trying c.requires.done;
        covered = covered_from_lifted I _ l _ (is_instance I l (stands d))
            (rw (made d) at c.in_ok-line.ensures.covered);
      });
      watched = record {
        tracks = c.requires.watched.tracks;
        above = above_more l _ _ _ _ grown c.requires.watched.above;
      };
      held = tt;
      counted = let n = c.in_ok-line.ensures.counted in omega (arith, n);
    }
