-- A sentence, byte by byte.
use Rattle.std.proofs.Common.{◌≡◌, ℕ, List, [], ◌∷◌, ◌++◌, refl, ap, sym, ◌∙◌, append_assoc, append-nil}
use Rattle.bus_say.specs.declared.sentence.Hole.{Hole}
use Rattle.bus_say.specs.Sentences.{behind, told_text, said_from}

-- What is open behind these bytes.
abbrev pub behind_all : Hole → List ℕ → Hole
behind_all hole [] = hole
behind_all hole (byte ∷ rest) = behind_all (behind hole byte) rest

pub behind_push : (hole : Hole) (bytes : List ℕ) (byte : ℕ) → behind_all hole (bytes ++ byte ∷ []) ≡ behind (behind_all hole bytes) byte
behind_push hole [] byte = refl
behind_push hole (b ∷ bytes) byte = behind_push (behind hole b) bytes byte

pub said_push : (numbers : List ℕ) (hole : Hole) (bytes : List ℕ) (byte : ℕ)
    → said_from numbers hole (bytes ++ byte ∷ []) ≡ said_from numbers hole bytes ++ told_text numbers (behind_all hole bytes) byte
said_push numbers hole [] byte = append-nil (told_text numbers hole byte)
said_push numbers hole (b ∷ bytes) byte =
    ap (λ t. told_text numbers hole b ++ t) (said_push numbers (behind hole b) bytes byte)
    ∙ sym (append_assoc (told_text numbers hole b) (said_from numbers (behind hole b) bytes) (told_text numbers (behind_all (behind hole b) bytes) byte))
