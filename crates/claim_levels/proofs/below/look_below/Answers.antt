use Rattle.claim_levels.proofs.Words.{IsInstance}
use Rattle.claim_levels.proofs.Looking.{all_noted, child_is, none_fell, none_fell_since}
use Rattle.claim_levels.proofs.below.look_below.Goals as goal

pub returns-clause-covered : goal.returns-clause-covered
returns-clause-covered g c = λ l a.
    let e = c.in_ok-raise_all.ensures in
    c.find.ensures.some _ _ (child_is _ _ _ _ e.raising e.done _ c.deref.ensures.value l a)

pub returns-clause-uncovered : goal.returns-clause-uncovered
returns-clause-uncovered g c = λ l a noted watched.
    let e = c.in_ok-raise_all.ensures in
    let s : IsInstance c.args.instance.now = λ k d i. (c.len-count.ensures.buffers k d i).sound in
    c.find.ensures.uncovered _ _ (child_is _ _ _ _ e.raising e.done _ c.deref.ensures.value l a) _ noted
    (none_fell _ _ _ _ e.raising e.done _ c.deref.ensures.value s c.requires.1.0)
    (all_noted _ _ _ _ e.raising _ _ c.deref.ensures.value c.deref-2.ensures.value) watched

pub returns-clause-watched : goal.returns-clause-watched
returns-clause-watched g c = λ noted watched.
    let e = c.in_ok-raise_all.ensures in
    let s : IsInstance c.args.instance.now = λ k d i. (c.len-count.ensures.buffers k d i).sound in
    rw c.deref.ensures.value at (c.find.ensures.none _ noted
    (none_fell _ _ _ _ e.raising e.done _ c.deref.ensures.value s c.requires.1.0)
    (all_noted _ _ _ _ e.raising _ _ c.deref.ensures.value c.deref-2.ensures.value) watched)

pub returns-clause-kept : goal.returns-clause-kept
returns-clause-kept g c = λ before n k watched.
    let e = c.in_ok-raise_all.ensures in
    let s : IsInstance c.args.instance.now = λ k d i. (c.len-count.ensures.buffers k d i).sound in
    c.find.ensures.kept _ _
    (none_fell_since _ _ _ _ e.raising e.done _ c.deref.ensures.value s c.requires.1.0 before k) watched
