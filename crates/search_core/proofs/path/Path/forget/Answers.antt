use Rattle.std.proofs.Common.{rules}
use Rattle.search_core.proofs.Keeping.{set_order}
use Rattle.search_core.proofs.path.Path.forget.Goals as goal

pub returns-then-len-near : goal.returns-then-len-near
returns-then-len-near c =
    let same = set_order c.args.self.now c.self.inside.sky c.self.inside.kept.items _ c.index_mut.result.now
    c.self.view_is c.index_mut.ensures.value in
    search (rules, same)
