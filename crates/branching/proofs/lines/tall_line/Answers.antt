use Rattle.std.proofs.Common.{◌≡◌, ◌+◌, ◌-◌, ◌≤◌, ◌^◌, ◌∙◌, inl, inr, refl, arith}
use Rattle.branching.proofs.Words.{buffer}
use Rattle.branching.proofs.TallLines.{tall_is_legal}
use Rattle.branching.proofs.lines.tall_line.Goals as goal

height_is : (c : goal.In_ok-claim) →
    c.saturating_sub-height.result ≡ c.args.task.now.capacity + 1 - (buffer c.args.task.now.instance.now c.args.b).size
height_is c = c.saturating_sub-height.ensures ∙ (rw (c.size.ensures.value, c.buffer-buffer.ensures.value) refl)

pub returns-clause-legal : goal.returns-clause-legal
returns-clause-legal c earlier =
    rw (c.in_ok-claim.ensures, height_is c)
    (tall_is_legal c.args.task.now.instance.now c.args.task.now.capacity c.args.b c.first_moment-moment.result earlier
    (rw c.buffer-buffer.ensures.value at c.buffer-buffer.ensures.buffer) c.requires
    (rw c.buffer-buffer.ensures.value at c.first_moment-moment.ensures.live))

pub returns-clause-within : goal.returns-clause-within
returns-clause-within c =
    let h : c.saturating_sub-height.result ≤ 2 ^ 60 = omega (
      arith,
      c.args.task.now.limit,
      c.size.ensures.buffer.sound.0,
      c.size.ensures.value,
      c.saturating_sub-height.ensures,
    ) in (
      rw c.in_ok-claim.ensures (λ e i. elim i [ inl q ↦ rw q h | inr j ↦ absurd j ]),
      c.first_moment-moment.ensures.limit,
      h,
      omega arith,
    )
