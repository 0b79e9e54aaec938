-- Bytes that stand in a JSON string as they are.
use Rattle.std.specs.Prelude.{ℕ, Bool, not, ◌&&◌, ◌==◌, nat_le, List}
use Rattle.std.specs.List.{list_all}

-- No control, no quotation mark and no backslash.
abbrev pub is_plain : ℕ → Bool
is_plain byte = nat_le 32 byte && (not (byte == 34) && not (byte == 92))

-- Only such bytes.
abbrev pub are_plain : List ℕ → Bool
are_plain bytes = list_all is_plain bytes
