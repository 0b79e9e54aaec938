-- What a page ends with: the text that was given, and what stands behind the page.
--   program   what wrote it: its name and its version
--   bytes     the text as it was given
use Rattle.std.specs.Prelude.{ℕ, ◌/◌, ◌%◌, ◌==◌, List, [], ◌∷◌, ◌++◌, length, codes, if◌then◌else◌}
use Rattle.std.specs.List.{flat_map}
use Rattle.bus_text.specs.Digits.{hexadecimal}
use Rattle.bus_pen.specs.Numbers.{plainly_counted}
use Rattle.bus_page.specs.Checksums.{checksum}
use Rattle.bus_page.specs.Heads.{figure, section_text}

-- On what the sentences of an accepted table rest.
unfoldable pub premises_text : List ℕ
premises_text =
    codes "<ul>\n<li>The rules are those of this project's profile of the bus: that it is the real bus is not proved.</li>\n"
    ++ codes "<li>Each sender keeps to its SEND lines, and nobody else sends.</li>\n"
    ++ codes "<li>Cycle, spare, load, waits, and ages without delays rest on exact clocks, no delay, the settled start, and as many\n"
    ++ codes "messages for each sender.</li>\n"
    ++ codes "<li>The tolerance, and ages with delays up to it, rest on exact clocks and as many messages for each sender; in aperiodic\n"
    ++ codes "mode on power-ups within the tolerance of one another, in periodic mode on the settled start.</li>\n"
    ++ codes "<li>The level is of a bus within the bounds that stand with it, on which nothing else is heard, as long as messages are\n"
    ++ codes "left. At a common start all are powered up within that delay of the first sender, with as many messages for each.</li>\n"
    ++ codes "</ul>\n"

-- The same under its heading.
abbrev pub resting_text : List ℕ
resting_text = section_text (codes "What this rests on") ++ premises_text

-- ---- the text that was given
-- A byte of a text as HTML shows it: the three that mean something there are written by their names.
abbrev pub shown : ℕ → List ℕ
shown byte =
    if byte == 38 then codes "&amp;" else (if byte == 60 then codes "&lt;" else (if byte == 62 then codes "&gt;" else byte ∷ []))

-- All of them.
abbrev pub shown_text : List ℕ → List ℕ
shown_text bytes = flat_map shown bytes

-- The text under its heading. HTML drops a line feed behind the beginning, so that one with which the text begins is kept.
abbrev pub given_text : List ℕ → List ℕ
given_text bytes =
    section_text (codes "The text of the table") ++ codes "<pre class=\"table\">\n" ++ shown_text bytes ++ codes "</pre>\n"

-- ---- what stands behind the page
abbrev pub program_figure : (program : List ℕ) → List ℕ
program_figure program = figure (codes "written by") program

abbrev pub length_figure : (bytes : List ℕ) → List ℕ
length_figure bytes = figure (codes "length of the text") (plainly_counted (length bytes) (codes "byte"))

-- A number in eight hexadecimal digits.
abbrev pub eight_digits : ℕ → List ℕ
eight_digits n = hexadecimal 4 (n / 65536) ++ hexadecimal 4 (n % 65536)

abbrev pub checksum_figure : (bytes : List ℕ) → List ℕ
checksum_figure bytes = figure (codes "CRC-32 of its bytes") (eight_digits (checksum bytes))

-- What can't be known of the program that wrote the page, and who says it.
unfoldable pub build_text : List ℕ
build_text =
    codes "<p>That a page is exactly the text defined of its table is proved of the sources of this program. Neither that the program\n"
    ++ codes "was built of them nor by which version of its kit, Rattle, can a page tell: in the project's folder "
    ++ codes "<code>./bus629-view</code>\n"
    ++ codes "says on standard error where it runs a quick build, of which nothing is proved.</p>\n"

-- All of it.
abbrev pub source_text : (program bytes : List ℕ) → List ℕ
source_text program bytes =
    section_text (codes "What stands behind this page") ++ codes "<dl>\n" ++ program_figure program ++ length_figure bytes
    ++ checksum_figure bytes ++ codes "</dl>\n" ++ build_text

-- The end of a page, behind the sentences.
abbrev pub foot_text : (program bytes : List ℕ) → List ℕ
foot_text program bytes = codes "</pre>\n" ++ given_text bytes ++ source_text program bytes ++ codes "</body>\n</html>\n"
