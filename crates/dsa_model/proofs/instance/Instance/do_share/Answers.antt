use Rattle.std.proofs.Common.{◌-◌, ◌<◌, arith}
use Rattle.dsa_model.specs.Buffer.{buffer_limit}
use Rattle.dsa_model.proofs.BitLemmas.{reached_before}
use Rattle.dsa_model.proofs.Sharing.{looked_up, row_count, row_noted}
use Rattle.dsa_model.proofs.instance.Instance.do_share.Goals as goal

pub get-requires : goal.get-requires
get-requires c =
    let noted = row_noted _ _ _ _ c.self.view_is c.self.invariant.2 c.requires.b_in c.index.ensures in
    let count = row_count _ _ c.self.view_is in
    let few : c.args.c < buffer_limit = omega (arith, c.requires.c_in, count, c.self.invariant.0) in
    reached_before _ (buffer_limit - 1) _ noted.reaches (omega (arith, few))

pub returns : goal.returns
returns c =
    looked_up _ _ _ _ _ (row_noted _ _ _ _ c.self.view_is c.self.invariant.2 c.requires.b_in c.index.ensures)
    c.requires.c_in c.get.ensures
