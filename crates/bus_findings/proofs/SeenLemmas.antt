-- Members of recordings, and tests on numbers.
use Rattle.std.proofs.Common.{◌≡◌, List, [], ◌∷◌, inl, inr}
use Rattle.bus_strings.specs.Members.{In}
use Rattle.bus_strings.specs.Messages.{Entry}
use Rattle.bus_strings.proofs.MemberLaws.{in_map, from_map}
use Rattle.bus_bounds.specs.Bounds.{Bounds}
use Rattle.bus_recording.specs.Seen.{Seen, IsIn}
use Rattle.bus_findings.specs.Recorded.{seen, recorded}

pub is_in : (xs : List Seen) (x : Seen) → In x xs → IsIn x xs
is_in [] x i = i
is_in (y ∷ xs) x (inl same) = inl same
is_in (y ∷ xs) x (inr i) = inr (is_in xs x i)

pub in_is : (xs : List Seen) (x : Seen) → IsIn x xs → In x xs
in_is [] x i = i
in_is (y ∷ xs) x (inl same) = inl same
in_is (y ∷ xs) x (inr i) = inr (in_is xs x i)

-- what is recorded is of some transmission, and each is recorded
pub recorded_is : (bounds : Bounds) (list : List Entry) (r : Seen) → IsIn r (recorded bounds list) → (x : Entry) × In x list × (seen bounds x ≡ r)
recorded_is bounds list r i = from_map (seen bounds) list r (in_is (recorded bounds list) r i)

pub is_recorded : (bounds : Bounds) (list : List Entry) (x : Entry) → In x list → IsIn (seen bounds x) (recorded bounds list)
is_recorded bounds list x i = is_in (recorded bounds list) (seen bounds x) (in_map (seen bounds) list x i)
