use Rattle.std.proofs.Common.{◌<◌, ◌+◌, ◌^◌, arith}
use Rattle.dsa_terms.specs.Claims.{up}
use Rattle.canonical_order.specs.Claims.{entry_of}
use Rattle.canonical_order.proofs.Entries.{stands, up_limit}
use Rattle.canonical_order.proofs.LevelLemmas.{read_inside}
use Rattle.canonical_order.proofs.low_table.LowTableLows.low.Goals as goal

pub index-requires : goal.index-requires
index-requires c =
    let t = c.args.self.now in
    let lt = t.in_range _ c.requires in
    let n = t.filled.count in
    let k = t.levels.ok.0 in
    omega arith

pub overflow_sub-result : goal.overflow_sub-result
overflow_sub-result c =
    let t = c.args.self.now in
    let q = read_inside t.instance.now t.claim.now t.levels.items t.filled c.args.b c.index.result.now c.index.ensures
    c.requires in
    omega arith

pub returns-clause-value : goal.returns-clause-value
returns-clause-value c =
    let t = c.args.self.now in
    let q = read_inside t.instance.now t.claim.now t.levels.items t.filled c.args.b c.index.result.now c.index.ensures
    c.requires in
    omega arith

pub returns-clause-limit : goal.returns-clause-limit
returns-clause-limit c =
    let t = c.args.self.now in
    let q = read_inside t.instance.now t.claim.now t.levels.items t.filled c.args.b c.index.result.now c.index.ensures
    c.requires in
    let s = stands _ _ c.len-pairs.ensures.kept t.in_range c.len-count.ensures.buffers c.len-count.ensures.limit in
    let k : up t.instance.now (entry_of t.claim.now c.args.b) < 2 ^ 61 + 2 ^ 32 =
    up_limit t.instance.now t.claim.now c.args.b (2 ^ 61) s s.bounds c.requires in
    omega arith

pub returns-clause-stands : goal.returns-clause-stands
returns-clause-stands c =
    stands _ _ c.len-pairs.ensures.kept c.args.self.now.in_range c.len-count.ensures.buffers c.len-count.ensures.limit
