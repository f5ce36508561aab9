use Rattle.layout_picture.proofs.Showing.{load_in_column}
use Rattle.layout_picture.proofs.laws.loads_are_shown.Goals as goal

pub returns : goal.returns
returns c = load_in_column
