use Rattle.layout_picture.proofs.Apart.{at_base, at_top, scaled_rises, touches, x_grows, y_falls}
use Rattle.layout_picture.proofs.laws.scaling_keeps_order.Goals as goal

pub returns : goal.returns
returns c = record {
  order = scaled_rises;
  above = y_falls;
  touch = touches;
  base = at_base;
  height = at_top;
  left = x_grows;
}
