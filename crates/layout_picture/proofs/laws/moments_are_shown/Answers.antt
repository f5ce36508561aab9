use Rattle.layout_picture.proofs.Showing.{lives, shown}
use Rattle.layout_picture.proofs.laws.moments_are_shown.Goals as goal

pub returns : goal.returns
returns c = λ I offsets b t lt. (shown I offsets b t lt, lives I offsets b t lt)
