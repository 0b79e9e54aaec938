-- What a writer of a row keeps: the last box so far, which may still grow.
use Rattle.std.specs.Prelude.{◌≡◌, ℕ, ◌+◌, ◌≤◌, List, [], ◌∷◌, ◌++◌, length, ⊤, Option, Some, None, if◌then◌else◌}
use Rattle.std.specs.List.{AllByRecursion}
use Rattle.std.specs.Option.{option_map_or}
use Rattle.bus_strings.specs.Messages.{Entry}
use Rattle.bus_table.specs.Tables.{Table}
use Rattle.bus_shapes.specs.declared.sent.Sent.{Sent}
use Rattle.bus_pen.specs.declared.scale.Scale.{Scale}
use Rattle.bus_shapes.specs.Sending.{sents}
use Rattle.bus_shapes.specs.inside.Sents.{IsInOrder}
use Rattle.bus_picture.specs.Boxes.{Cluster, grown, joins, one}
use Rattle.bus_picture.specs.Rows.{Row, cluster_text, shows}

-- The last box where x, which is shown, comes next.
abbrev pub with_next : Scale → Option Cluster → Sent → Cluster
with_next scale None x = one x
with_next scale (Some cluster) x = if joins scale cluster x then grown cluster x else one x

-- A box, where x doesn't share it.
abbrev pub unshared : Scale → Table → Row → List Entry → Cluster → Sent → List ℕ
unshared scale table row list cluster x = if joins scale cluster x then [] else cluster_text scale table row list cluster

-- What is written then: the box before, where x doesn't share it.
abbrev pub written : Scale → Table → Row → List Entry → Option Cluster → Sent → List ℕ
written scale table row list None x = []
written scale table row list (Some cluster) x = unshared scale table row list cluster x

-- The last box where x comes next, shown or not.
abbrev pub next_cluster : Scale → Row → Option Cluster → Sent → Option Cluster
next_cluster scale row last x = if shows scale row x then Some (with_next scale last x) else last

-- What is written then, whether x is shown or not.
abbrev pub next_written : Scale → Table → Row → List Entry → Option Cluster → Sent → List ℕ
next_written scale table row list last x = if shows scale row x then written scale table row list last x else []

-- The last box, where there is one.
abbrev pub last_written : Scale → Table → Row → List Entry → Option Cluster → List ℕ
last_written scale table row list last = option_map_or (cluster_text scale table row list) last []

-- What is still to be written, where these transmissions are yet to come.
abbrev pub to_come : Scale → Table → Row → List Entry → Option Cluster → List Sent → List ℕ
to_come scale table row list last [] = last_written scale table row list last
to_come scale table row list last (x ∷ xs) =
    next_written scale table row list last x ++ to_come scale table row list (next_cluster scale row last x) xs

-- How many transmissions the last box has.
abbrev pub held : Option Cluster → ℕ
held None = 0
held (Some cluster) = cluster.count

-- A box ends no earlier than it begins, and so does its first transmission; and it is busy for no longer than it takes.
pub record IsCluster (cluster : Cluster) : Type 0 where
  pub first : cluster.first.moment ≤ cluster.first.end
  pub later : cluster.first.moment + cluster.busy ≤ cluster.end

-- The last box, where there is one.
abbrev pub IsLast : Option Cluster → Type 0
IsLast None = ⊤
IsLast (Some cluster) = IsCluster cluster

-- A writer of a row has these transmissions yet to come. `text done` is that it has written this.
pub record Writing (text : List ℕ → Type 0) (scale : Scale) (table : Table) (row : Row) (list : List Entry) (last : Option Cluster)
    (left : List Sent) : Type 0 where
  pub done : List ℕ
  pub adds : text done
  pub rest : done ++ to_come scale table row list last left ≡ to_come scale table row list None (sents list)
  pub order : AllByRecursion IsInOrder left
  pub cluster : IsLast last
  pub few : held last + length left ≤ length list
