use Rattle.std.proofs.Common.{◌≡◌, ◌++◌, take}
use Rattle.std.specs.List.{flat_map}
use Rattle.csv_instance.specs.Offsets.{ids_of}
use Rattle.layout_picture.specs.Texts.{rectangle_text}
use Rattle.layout_picture.proofs.plot.put_rectangles.Given as goal

abbrev pub invariant-loop-rectangle : goal.invariant-loop-rectangle
invariant-loop-rectangle l = l.text.items ≡ l.fn.text.items
    ++ flat_map (rectangle_text l.scale l.instance (ids_of l.table) l.colours) (take l.rectangle-index l.rectangles)
