-- The figures of an accepted table: its cycle, its load, and how much delay it bears.
--   least, most   the verdict's
use Rattle.std.specs.Prelude.{ℕ, Bool, false, ◌==◌, List, map, codes, Option}
use Rattle.std.specs.Option.{option_map_or}
use Rattle.serde_json.specs.Data.{Data, boolean, string, object, member, no_members}
use Rattle.bus_table.specs.Tables.{Table}
use Rattle.bus_cable_plan.specs.Answers.{most_borne_of}
use Rattle.bus_explain.specs.Figures.{longest_bits, load}
use Rattle.bus_reach.specs.Bearing.{tolerance_of}
use Rattle.bus_reach.specs.Limits.{limits_of}
use Rattle.bus_reach.specs.declared.limit.Limit.{Limit}
use Rattle.bus_reach.specs.declared.limit.Rule.{Rule}
use Rattle.bus_reach.specs.declared.limit.Rule.TheVariants.{LeastGap, NextGap, OwnGap, Sync}
use Rattle.bus_facts.specs.Values.{count, count_or_any, count_or_null, list}

-- The shortest and the longest cycle.
abbrev pub cycle_value : (least most : ℕ) → Data
cycle_value least most = object (member (codes "least") (count least) (member (codes "most") (count most) no_members))

-- The load: the bits of all longest messages, of how many bit times in the longest cycle, and this share in tenths of a percent.
abbrev pub load_value : Table → ℕ → Data
load_value table most =
    object (member (codes "bits") (count (longest_bits table))
    (member (codes "of") (count most)
    (member (codes "per_mille") (count (load table most)) no_members)))

-- A rule, what it alone bears, and whether that is what the table bears.
abbrev pub rule_value : List ℕ → (terminal : ℕ) → Option ℕ → Bool → Data
rule_value word terminal bears limits =
    object (member (codes "bears") (count_or_any bears)
    (member (codes "limits") (boolean limits)
    (member (codes "rule") (string word)
    (member (codes "terminal") (count terminal) no_members))))

-- The word of a rule.
abbrev pub rule_word : Rule → List ℕ
rule_word (LeastGap terminal) = codes "least-gap"
rule_word (NextGap terminal) = codes "next-gap"
rule_word (OwnGap terminal) = codes "own-gap"
rule_word (Sync terminal) = codes "sync"

-- The terminal of a rule.
abbrev pub rule_terminal : Rule → ℕ
rule_terminal (LeastGap terminal) = terminal
rule_terminal (NextGap terminal) = terminal
rule_terminal (OwnGap terminal) = terminal
rule_terminal (Sync terminal) = terminal

-- Whether two numbers are told, and are the same.
abbrev pub is_same : Option ℕ → Option ℕ → Bool
is_same a b = option_map_or (λ x. option_map_or (λ y. x == y) b false) a false

-- A limit of a table with this tolerance.
abbrev pub limit_value : Option ℕ → Limit → Data
limit_value tolerance limit =
    rule_value (rule_word limit.rule) (rule_terminal limit.rule) limit.bears (is_same limit.bears tolerance)

-- The greatest delay that any offsets of a table bear, where it is known.
unfoldable pub best_value : Table → Data
best_value table = count_or_null (most_borne_of table)

-- How much delay a table bears, by what rules, and how much it would bear at the best offsets.
abbrev pub tolerance_value : Table → Data
tolerance_value table =
    object (member (codes "best") (best_value table)
    (member (codes "delay") (count_or_any (tolerance_of table))
    (member (codes "rules") (list (map (limit_value (tolerance_of table)) (limits_of table))) no_members)))
