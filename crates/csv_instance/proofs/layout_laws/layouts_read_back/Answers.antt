use Rattle.csv_instance.proofs.LayoutLaw.{layout-back}
use Rattle.csv_instance.proofs.layout_laws.layouts_read_back.Goals as goal

pub returns : goal.returns
returns c = λ table I offsets is even small. layout-back table I offsets is small even
