-- What is kept of the channels of a label.
use Rattle.std.proofs.Common.{◌≡◌, ℕ, ◌+◌, ◌<◌, ◌==◌, Bool, true, false, cond, List, [], ◌∷◌, ◌++◌, length, map, take, get_or, refl, ap, sym, ◌∙◌, append-nil, append_assoc}
use Rattle.std.specs.List.{filter, flat_map}
use Rattle.bus_table.specs.declared.line.SendLine.{SendLine}
use Rattle.bus_table.specs.Tables.{Sender}
use Rattle.bus_vote.specs.Labels.{Channel, channel_of, sender_channels, voted}
use Rattle.bus_vote.specs.inside.Scans.{seen, after, voted_of, line_channels}
use Rattle.bus_vote.specs.declared.seen.Seen.{Seen}
use Rattle.bus_strings.proofs.ListLaws.{flat_map-take}

-- one more
pub seen_push : (cs : List Channel) (c : Channel) → seen (cs ++ c ∷ []) ≡ after (seen cs) c
seen_push [] c = refl
seen_push (a ∷ []) c = refl
seen_push (a ∷ (b ∷ [])) c = refl
seen_push (a ∷ (b ∷ (d ∷ []))) c = refl
seen_push (a ∷ (b ∷ (d ∷ (e ∷ rest)))) c = refl

pub seen_voted : (label : ℕ) (cs : List Channel) → voted_of label (seen cs) ≡ voted label cs
seen_voted label [] = refl
seen_voted label (a ∷ []) = refl
seen_voted label (a ∷ (b ∷ [])) = refl
seen_voted label (a ∷ (b ∷ (c ∷ []))) = refl
seen_voted label (a ∷ (b ∷ (c ∷ (d ∷ rest)))) = refl

-- a line that has another label, and one that has the label
pub line_without : (cs : List Channel) (before : Seen) (label terminal : ℕ) (line : SendLine) → (line.label == label) ≡ false → before ≡ seen cs
    → before ≡ seen (cs ++ line_channels label terminal line)
line_without cs before label terminal line other h =
    h ∙ ap seen (sym (append-nil cs)) ∙ ap (λ (t : Bool). seen (cs ++ cond t (record { terminal = terminal; ext = line.ext } ∷ []) [])) (sym other)

pub line_with : (cs : List Channel) (before : Seen) (label terminal : ℕ) (line : SendLine) (result : Seen) → (line.label == label) ≡ true → before ≡ seen cs
    → result ≡ after before (record { terminal = terminal; ext = line.ext }) → result ≡ seen (cs ++ line_channels label terminal line)
line_with cs before label terminal line result same h r =
    let c : Channel = record { terminal = terminal; ext = line.ext } in
    r ∙ ap (λ s. after s c) h ∙ sym (seen_push cs c) ∙ ap (λ (t : Bool). seen (cs ++ cond t (c ∷ []) [])) (sym same)

-- the lines of a sender
mapped_by : {X Y : Type 0} (t : Bool) (f : X → Y) (x : X) (xs : List X) (rest : List Y) → rest ≡ map f xs → cond t (f x ∷ []) [] ++ rest ≡ map f (cond t (x ∷ xs) xs)
mapped_by true f x xs rest e = ap (λ r. f x ∷ r) e
mapped_by false f x xs rest e = e

lines_are : (label : ℕ) (sender : Sender) (lines : List SendLine) → flat_map (line_channels label sender.number) lines ≡ map (channel_of sender) (filter (λ (line : SendLine). line.label == label) lines)
lines_are label sender [] = refl
lines_are label sender (line ∷ lines) =
    mapped_by (line.label == label) (channel_of sender) line (filter (λ (line : SendLine). line.label == label) lines) _ (lines_are label sender lines)

pub sender_lines : (label number : ℕ) (sender : Sender) (lines : List SendLine) → number ≡ sender.number → lines ≡ sender.sends
    → flat_map (line_channels label number) lines ≡ sender_channels label sender
sender_lines label number sender lines n l =
    ap (λ m. flat_map (line_channels label m) lines) n ∙ ap (flat_map (line_channels label sender.number)) l ∙ lines_are label sender sender.sends

-- one more of some that each give channels
pub seen_take : {X : Type 0} (f : X → List Channel) (cs : List Channel) (xs : List X) (i : ℕ) (x : X) (old new : Seen) → i < length xs → x ≡ get_or xs i x
    → old ≡ seen (cs ++ flat_map f (take i xs)) → ((ds : List Channel) → old ≡ seen ds → new ≡ seen (ds ++ f x)) → new ≡ seen (cs ++ flat_map f (take (i + 1) xs))
seen_take f cs xs i x old new within is h step =
    step (cs ++ flat_map f (take i xs)) h ∙ ap seen (append_assoc cs (flat_map f (take i xs)) (f x) ∙ ap (λ t. cs ++ t) (sym (flat_map-take f xs i x within is)))
