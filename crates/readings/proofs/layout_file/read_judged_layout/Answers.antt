use Rattle.std.proofs.Common.{inl, inr}
use Rattle.readings.proofs.layout_file.read_judged_layout.Goals as goal

pub returns-in-Unreadable-clause-judged : goal.returns-in-Unreadable-clause-judged
returns-in-Unreadable-clause-judged g c = record {
  instance = c.instance-instance.result.now;
  parsed = c.instance-instance.ensures.parsed;
  judged = inl (rw c.in-Unreadable.is at c.in_ok-bytes.ensures.content);
}

pub returns-clause-judged : goal.returns-clause-judged
returns-clause-judged g c =
    let whole = rw c.in-Bytes.is at c.in_ok-bytes.ensures.content in
    record {
      instance = c.instance-instance.result.now;
      parsed = c.instance-instance.ensures.parsed;
      judged = inr (inr (record {
        bytes = c.in-Bytes.bytes.items;
        offsets = c.in-Ok.offsets.items;
        fault = c.in-Err.fault;
        told = search;
        whole = whole;
        parsed = rw c.as_slice.ensures.value at c.in-Ok.ensures.read;
        refused = rw c.as_slice-2.ensures.value at c.in-Err.ensures.cause;
      }));
    }
