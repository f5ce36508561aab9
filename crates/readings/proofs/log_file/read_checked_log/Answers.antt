use Rattle.std.proofs.Common.{◌≡◌, Some, ap, refl, inl, inr}
use Rattle.dsa_terms.specs.Logs.{Log}
use Rattle.log_text.specs.Faults.{IsFirstFault}
use Rattle.log_text.specs.Says.{Says}
use Rattle.log_text.specs.Text.{raw_log_of}
use Rattle.log_text.specs.declared.fault.TextFault.{TextFault}
use Rattle.log_text.specs.declared.raw.RawLog.{RawLog}
use Rattle.log_check.specs.Faults.{check_fault}
use Rattle.log_check.specs.declared.fault.CheckFault.{CheckFault}
use Rattle.run_status.specs.declared.status.Status.TheVariants as status
use Rattle.run_status.specs.declared.status.LogCause.TheVariants as refused
use Rattle.readings.proofs.Faulty.{fault_gives}
use Rattle.readings.proofs.log_file.read_checked_log.Goals as goal

pub returns-in-Unreadable-clause-checked : goal.returns-in-Unreadable-clause-checked
returns-in-Unreadable-clause-checked g c = inl (rw c.in-Unreadable.is at c.in_ok-bytes.ensures.content)

pub returns-in-Err-Fault-clause-checked : goal.returns-in-Err-Fault-clause-checked
returns-in-Err-Fault-clause-checked g c =
    let first : IsFirstFault c.as_slice.result.now c.in-Err-Fault.fault = fault_gives
    (λ (raw : RawLog). Says c.as_slice.result.now raw)
    (λ (f : TextFault). IsFirstFault c.as_slice.result.now f)
    c.read_log.result c.in-Err-Fault.field-0 c.in-Err-Fault.fault c.in-Err-Fault.is c.in-Err-Fault.field-0-is
    c.read_log.ensures.sound in
    inr (inl (record {
      bytes = c.in-Bytes.bytes.items;
      fault = c.in-Err-Fault.fault;
      told = ap (λ (f : TextFault). status.LogRefused (refused.Text f)) c.in-Err-Fault.fault-is;
      whole = rw c.in-Bytes.is at c.in_ok-bytes.ensures.content;
      refused = rw c.as_slice.ensures.value at first;
    }))

pub returns-in-Err-Fault-check-clause-checked : goal.returns-in-Err-Fault-check-clause-checked
returns-in-Err-Fault-check-clause-checked g c = inr (inr (record {
  bytes = c.in-Bytes.bytes.items;
  raw = c.in-Ok.raw;
  fault = c.in-Err-Fault-check.fault;
  told = refl;
  whole = rw c.in-Bytes.is at c.in_ok-bytes.ensures.content;
  says = rw c.as_slice.ensures.value at c.in-Ok.ensures.sound;
  refused = fault_gives (λ (log : Log). raw_log_of log ≡ c.in-Ok.raw)
      (λ (f : CheckFault). check_fault c.args.instance.now c.in-Ok.raw ≡ Some f)
      c.check.result c.in-Err-Fault-check.field-0 c.in-Err-Fault-check.fault c.in-Err-Fault-check.is
      c.in-Err-Fault-check.field-0-is c.check.ensures.same;
}))
