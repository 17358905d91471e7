use Rattle.program_devices.proofs.ReadLemmas.{ReadsFew-more}
use Rattle.program_devices.proofs.devices.reading.read_text.Goals as goal

pub returns-in_err-is_at_end-clause-few : goal.returns-in_err-is_at_end-clause-few
returns-in_err-is_at_end-clause-few g c =
    ReadsFew-more _ _ _ _ c.loop-is_at_end.text.items c.loop-is_at_end.is_at_end c.loop-is_at_end.invariant.0 c.in_err-is_at_end.ensures.few
