-- What bus629-view tells of itself: its help, which is the text of docs/bus629-view.help, and its version.
use Rattle.std.specs.Prelude.{ℕ, List}
use Rattle.bus_command.specs.declared.about.About.{About}
use Rattle.bus_command.specs.declared.about.About.TheVariants.{Help, Version}
use Rattle.bus_view.specs.declared.itself.TheConstants.{HELP, VERSION}

-- The help.
unfoldable pub help_text : List ℕ
help_text = HELP.now

-- The version of the program, and those of the texts that it reads and writes.
unfoldable pub version_text : List ℕ
version_text = VERSION.now

-- What is told.
abbrev pub itself_text : About → List ℕ
itself_text Help = help_text
itself_text Version = version_text
