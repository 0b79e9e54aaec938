use Rattle.bus_recording_lawful.proofs.Faultless.{lawful_no_fault}
use Rattle.bus_recording_lawful.proofs.laws.lawful_has_no_fault.Goals as goal

pub returns : goal.returns
returns c = lawful_no_fault c.lawful_is_clean.ensures.audited c.no_breach_is_right.ensures.breach c.good_buses_have_no_fault.ensures.clean
