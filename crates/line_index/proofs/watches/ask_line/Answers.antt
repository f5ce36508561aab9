use Rattle.std.proofs.Common.{◌<◌, List, arith, refl, slice_index, slice_set, subst, sym}
use Rattle.dsa_terms.specs.Claims.{Claim, Entry, IsIn}
use Rattle.dsa_terms.specs.Logs.{claim_of}
use Rattle.dsa_search_laws.proofs.Placing.{in_buffers}
use Rattle.refute_log.specs.Lines.{line_value}
use Rattle.line_index.specs.Looks.{IsLacked, IsUnmet}
use Rattle.line_index.specs.Rows.{mark_of}
use Rattle.line_index.specs.Watching.{AreOwnMoved, IsWatched}
use Rattle.line_index.proofs.RowSearch.{noted_with}
use Rattle.line_index.proofs.WatchLemmas.{covered_by_levels, get_set_same, lacked_rules_out, moved_set, own_of_moved, own_set, raised_refl, unmet_rules_out, watched_by}
use Rattle.line_index.proofs.watches.ask_line.Goals as goal
use Rattle.line_index.proofs.watches.ask_line.Goals.{In-Unmet, In-Lacks}

unmet : (c : In-Unmet) → IsUnmet (claim_of (line_value c.line.result.now)) c.args.levels.now
    (c.in-Unmet.b, c.in-Unmet.bound)
unmet c = subst (λ (k : Claim). IsUnmet k c.args.levels.now (c.in-Unmet.b, c.in-Unmet.bound)) c.claim-claim.ensures
    c.in-Unmet.ensures

lacked : (c : In-Lacks) → IsLacked (claim_of (line_value c.line.result.now)) c.args.levels.now
    (c.in-Lacks.b, c.in-Lacks.bound)
lacked c = subst (λ (k : Claim). IsLacked k c.args.levels.now (c.in-Lacks.b, c.in-Lacks.bound)) c.claim-claim.ensures
    c.in-Lacks.ensures

pub returns-in-Covers-clause-covered : goal.returns-in-Covers-clause-covered
returns-in-Covers-clause-covered c = λ I l h t. covered_by_levels I l _ c.args.log.now.lines c.args.k
    (line_value c.line.result.now)
    (let v = c.len-count.ensures.value in let n = c.len-count.ensures.limit in let t = c.requires.in_log in omega arith)
    c.line.ensures.value
    (subst (λ (k : Claim). (e : Entry) → IsIn e k → e.1 < slice_index c.args.levels.now e.0) c.claim-claim.ensures
    c.in-Covers.ensures) h

pub returns-in_ok-file-in-Unmet-clause-watched : goal.returns-in_ok-file-in-Unmet-clause-watched
returns-in_ok-file-in-Unmet-clause-watched c = λ t.
    let lines = c.args.log.now.lines in
    let levels = c.args.levels.now in
    let old = c.args.table.now.watches in
    let e : Entry = (c.in-Unmet.b, c.in-Unmet.bound) in
    let line = line_value c.line.result.now in
    subst (λ (ws : List Entry). IsWatched lines ws levels c.args.k) (sym c.in_ok-file-in-Unmet.ensures.watches)
    (watched_by lines _ (slice_set old c.args.k e) c.args.k line e c.line.ensures.value
    (get_set_same old c.args.k e c.requires.in_table) (unmet_rules_out _ _ _ e (raised_refl levels)
    (unmet (goal.at.returns-in_ok-file-in-Unmet-clause-watched c).In-Unmet)))

pub returns-in_ok-file-in-Unmet-clause-moved : goal.returns-in_ok-file-in-Unmet-clause-moved
returns-in_ok-file-in-Unmet-clause-moved c =
    let lines = c.args.log.now.lines in
    let levels = c.args.levels.now in
    let old = c.args.table.now.watches in
    let e : Entry = (c.in-Unmet.b, c.in-Unmet.bound) in
    subst (AreOwnMoved lines levels old) (sym c.in_ok-file-in-Unmet.ensures.watches)
    (own_of_moved _ _ _ _ (moved_set lines _ old c.args.k (line_value c.line.result.now) e c.line.ensures.value
    c.requires.in_table (unmet (goal.at.returns-in_ok-file-in-Unmet-clause-moved c).In-Unmet)))

pub returns-in_ok-file-in-Lacks-clause-watched : goal.returns-in_ok-file-in-Lacks-clause-watched
returns-in_ok-file-in-Lacks-clause-watched c = λ t.
    let lines = c.args.log.now.lines in
    let levels = c.args.levels.now in
    let old = c.args.table.now.watches in
    let e : Entry = (c.in-Lacks.b, c.in-Lacks.bound) in
    let line = line_value c.line.result.now in
    let f = lacked (goal.at.returns-in_ok-file-in-Lacks-clause-watched c).In-Lacks in
    subst (λ (ws : List Entry). IsWatched lines ws levels c.args.k) (sym c.in_ok-file-in-Lacks.ensures.watches)
    (watched_by lines _ (slice_set old c.args.k e) c.args.k line e c.line.ensures.value
    (get_set_same old c.args.k e c.requires.in_table) (lacked_rules_out _ _ e e f f.among))

pub returns-in_ok-file-in-Lacks-clause-moved : goal.returns-in_ok-file-in-Lacks-clause-moved
returns-in_ok-file-in-Lacks-clause-moved c =
    let lines = c.args.log.now.lines in
    let levels = c.args.levels.now in
    let old = c.args.table.now.watches in
    let e : Entry = (c.in-Lacks.b, c.in-Lacks.bound) in
    let watch = c.watch-watch.result in
    subst (AreOwnMoved lines levels old) (sym c.in_ok-file-in-Lacks.ensures.watches)
    (own_set lines levels old c.args.k (line_value c.line.result.now) e watch c.line.ensures.value c.watch-watch.ensures
    (λ i. let t = c.if-not-has.ensures.1 (subst (IsIn watch) (sym c.claim-claim.ensures) i) in absurd cc))

pub returns-else-not-has-clause-watched : goal.returns-else-not-has-clause-watched
returns-else-not-has-clause-watched c = λ t.
    let lines = c.args.log.now.lines in
    let line = line_value c.line.result.now in
    let watch = c.watch-watch.result in
    watched_by lines _ c.args.table.now.watches c.args.k line _ c.line.ensures.value c.watch-watch.ensures
    (lacked_rules_out _ _ watch _ (lacked (goal.at.returns-else-not-has-clause-watched c).In-Lacks)
    (subst (IsIn watch) c.claim-claim.ensures (c.if-not-has.ensures.0 refl)))

-- the new mark has the buffer of the watch for its note
pub returns-in_ok-file-in-Unmet-clause-noted : goal.returns-in_ok-file-in-Unmet-clause-noted
returns-in_ok-file-in-Unmet-clause-noted c = λ noted.
    let u = unmet (goal.at.returns-in_ok-file-in-Unmet-clause-noted c).In-Unmet in
    let e : Entry = (c.in-Unmet.b, c.in-Unmet.bound) in
    noted_with c.args.log.now.lines _ _ (mark_of c.args.k e.1 e.0) c.in_ok-file-in-Unmet.ensures.with (record {
      line = line_value c.line.result.now;
      stands = c.line.ensures.value;
      has = in_buffers _ e u.among;
    }) noted

pub returns-in_ok-file-in-Lacks-clause-noted : goal.returns-in_ok-file-in-Lacks-clause-noted
returns-in_ok-file-in-Lacks-clause-noted c = λ noted.
    let f = lacked (goal.at.returns-in_ok-file-in-Lacks-clause-noted c).In-Lacks in
    let e : Entry = (c.in-Lacks.b, c.in-Lacks.bound) in
    noted_with c.args.log.now.lines _ _ (mark_of c.args.k e.1 e.0) c.in_ok-file-in-Lacks.ensures.with (record {
      line = line_value c.line.result.now;
      stands = c.line.ensures.value;
      has = in_buffers _ e f.among;
    }) noted
