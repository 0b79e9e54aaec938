-- What a program tells of itself: `--help` and `--version`, each alone as the only word. A word is its bytes.
use Rattle.std.specs.Prelude.{◌≡◌, List, [], ◌∷◌, ℕ, codes, Option, Some, None, if◌then◌else◌}
use Rattle.std.specs.Io.KnownBytes.{append_known}
use Rattle.std.specs.Str.{bytes_eq}
use Rattle.bus_outer.specs.declared.sink.Sink.{Ghosts as SinkGhosts}
use Rattle.bus_command.specs.Acts.{Ends}
use Rattle.bus_command.specs.Claims.{NothingFails}
use Rattle.bus_command.specs.Outside.{Call, sink_seen}
use Rattle.bus_command.specs.Readers.{no_source}
use Rattle.bus_command.specs.declared.outcome.Outcome.{Outcome}
use Rattle.bus_command.specs.declared.outcome.Outcome.TheVariants.{Done}
use Rattle.bus_command.specs.declared.status.Status.{Status}
use Rattle.bus_command.specs.declared.status.Status.TheVariants as status
pub use Rattle.bus_command.specs.declared.about.About.{About}
pub use Rattle.bus_command.specs.declared.about.About.TheVariants.{Help, Version}

-- The word that asks for it.
abbrev pub about_word : About → List ℕ
about_word Help = codes "--help"
about_word Version = codes "--version"

-- What the only word of a command line asks a program to tell of itself, if it asks for that.
abbrev pub about_of : List ℕ → Option About
about_of word =
    if bytes_eq word (codes "--help") then Some Help
    else if bytes_eq word (codes "--version") then Some Version
    else None

-- What a command did that tells this text, whatever its sources hold.
abbrev pub EndsTelling : {R K : Type 0} → SinkGhosts K → List ℕ → K → K → Outcome R → Type 0
EndsTelling ghosts told old new outcome = Ends no_source Done (λ text. text ≡ told) (sink_seen ghosts old) (sink_seen ghosts new) outcome

-- A call whose only word asks for it, in which nothing outside fails.
pub record IsAbout (about : About) (call : Call) : Type 0 where
  pub form : call.words ≡ about_word about ∷ []
  pub undisturbed : NothingFails no_source call.before call.after

-- It is told, whatever memory there is: the status is Done, and this text stands behind what `out` held.
pub record TellsItself (text : List ℕ) (call : Call) (ends : Status) : Type 0 where
  pub done : ends ≡ status.Done
  pub written : call.after.out.bytes ≡ append_known call.before.out.bytes text
