-- The style of a picture: how its words, its classes and its patterns look, in a light and in a dark scheme.
use Rattle.std.specs.Prelude.{ℕ, List, ◌++◌, codes}
use Rattle.bus_pen.specs.Classes.{Fault, rule_text, rules_text}
use Rattle.bus_pen.specs.declared.style.TheConstants as the

-- The style of a picture: its words, its classes, those of a dark scheme, and the hatching.
abbrev pub style_text : List ℕ
style_text = codes "<style>\n" ++ the.FONT.now ++ rules_text ++ the.DARK.now ++ codes "</style>\n" ++ the.PATTERNS.now

-- The style of the marks of findings, which only their pictures have.
abbrev pub fault_style : List ℕ
fault_style = codes "<style>\n" ++ rule_text Fault ++ the.DARK_FAULT.now
