use Rattle.portfolio.proofs.elsewhere.search_in.Goals as goal

pub returns-in-Layout-clause-layout : goal.returns-in-Layout-clause-layout
returns-in-Layout-clause-layout c =
    let right = rw (c.in-Layout.is, c.in_ok-reordered.ensures.value) at c.in_ok-decided.ensures.right in
    c.in_ok-carried-in-Layout.ensures.layout c.args.instance.now c.args.capacity c.requires.order
    (rw c.deref.ensures.value right)
