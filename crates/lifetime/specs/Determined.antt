-- What the sections of an instance must be.
use Rattle.dsa_terms.specs.Buffers.{Instance}
use Rattle.lifetime.specs.Runs.{AreRuns}
use Rattle.lifetime.specs.SectionList.{AreSectionsOf, SectionList}
use Rattle.lifetime.specs.Thin.{IsThin, StandForAll}

-- the sections of the instance: they belong to it, start where runs begin, are thin, and stand for all moments
pub record AreSections (I : Instance) (S : SectionList) : Type 0 where
  pub sections : AreSectionsOf I S
  pub runs : AreRuns I S
  pub thin : IsThin S
  pub stand : StandForAll I S
