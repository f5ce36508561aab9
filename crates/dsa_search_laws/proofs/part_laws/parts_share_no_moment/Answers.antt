use Rattle.dsa_search_laws.proofs.Cuts.{sharing_is_one_part, cut_between, no_cut_between}
use Rattle.dsa_search_laws.proofs.Uncut.{sharing_in_one_part}
use Rattle.dsa_search_laws.proofs.part_laws.parts_share_no_moment.Goals as goal

pub returns-clause-sharing : goal.returns-clause-sharing
returns-clause-sharing c = sharing_in_one_part

pub returns-clause-starts : goal.returns-clause-starts
returns-clause-starts c = sharing_is_one_part

pub returns-clause-between : goal.returns-clause-between
returns-clause-between c = cut_between

pub returns-clause-within : goal.returns-clause-within
returns-clause-within c = no_cut_between
