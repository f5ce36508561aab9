use Rattle.std.proofs.Common.{◌≡◌, ◌<◌, ℕ, length, map, ap, ◌∙◌, arith}
use Rattle.dsa_terms.specs.Buffers.{Buffer, buffer}
use Rattle.dsa_terms.specs.Parts.{numbers}
use Rattle.layout_picture.specs.Sides.{left_side, right_side}
use Rattle.layout_picture.proofs.SideLists.{left_is, right_is, sides_more}
use Rattle.layout_picture.proofs.touching.following.Goals as goal

pub loop-b-init : goal.loop-b-init
loop-b-init c = record { ends = c.in_ok-ends.ensures.items; begins = c.in_ok-begins.ensures.items }

pub overflow_add-to : goal.overflow_add-to
overflow_add-to c =
    let lt : c.loop-b.b < length c.args.instance.now = omega arith in
    let k = c.requires.within c.loop-b.b lt in
    let e : c.size.result ≡ (buffer c.args.instance.now c.loop-b.b).size =
    c.size.ensures.value ∙ ap (λ (x : Buffer). x.size) c.buffer-buffer.ensures.value in
    omega arith

pub loop-b-preserved : goal.loop-b-preserved
loop-b-preserved c = record {
  ends = sides_more (right_side c.args.instance.now c.args.offsets.now) c.loop-b.b c.loop-b.ends.items
      c.push.new.self.items _ c.loop-b.invariant.ends c.in_ok-push.ensures.items
      (right_is c.args.instance.now c.args.offsets.now c.loop-b.b c.upper.result c.size.result
      c.buffer-buffer.result.now c.buffer-buffer.ensures.value c.upper.ensures.value c.size.ensures.value);
  begins = sides_more (left_side c.args.instance.now c.args.offsets.now) c.loop-b.b c.loop-b.begins.items
      c.push-in-loop-b.new.self.items _ c.loop-b.invariant.begins c.in_ok-push-2.ensures.items
      (left_is c.args.instance.now c.args.offsets.now c.loop-b.b c.lower.result c.size.result
      c.buffer-buffer.result.now c.buffer-buffer.ensures.value c.lower.ensures.value c.size.ensures.value);
}

pub returns : goal.returns
returns c =
    let e : c.loop-b.b ≡ length c.args.instance.now = omega arith in
    record {
      ends = c.loop-b.invariant.ends
          ∙ ap (λ (n : ℕ). map (right_side c.args.instance.now c.args.offsets.now) (numbers n)) e;
      begins = c.loop-b.invariant.begins
          ∙ ap (λ (n : ℕ). map (left_side c.args.instance.now c.args.offsets.now) (numbers n)) e;
    }
