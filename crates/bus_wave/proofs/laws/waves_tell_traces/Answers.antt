use Rattle.bus_wave.proofs.ReadLemmas.{reads_back, reads_only, waves_tell}
use Rattle.bus_wave.proofs.SpacingLemmas.{passes}
use Rattle.bus_wave.proofs.WaveLemmas.{has_one_text, some_strings}
use Rattle.bus_wave.proofs.laws.waves_tell_traces.Goals as goal

pub returns : goal.returns
returns c = record {
  passes = passes;
  texts = λ table t valid trace spaced. has_one_text t spaced.apart (some_strings t trace);
  back = reads_back;
  only = reads_only;
  tell = waves_tell;
}
