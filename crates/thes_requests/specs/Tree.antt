-- The JSON data of a parsed tree, whose objects may repeat names.
use Rattle.std.specs.Prelude.{ℕ, List, map, fold}
use Rattle.std.specs.Borrow.{Bor}
use Rattle.serde_json.specs.Data.{Data, null, boolean, number, string, array, object, Items, Members, no_members, put}
use Rattle.serde_json.specs.View.{number_view, items_of}
use Rattle.thes_requests.specs.declared.tree.Value.{Value, fold-Value}
use Rattle.thes_requests.specs.declared.tree.Value.TheOpen.{Value-F}

-- The members, put in one by one; if a name repeats, its last value counts.
abbrev pub members_of : List (Bor (List ℕ) × Data) → Members
members_of = fold (λ found m. put m.0.now m.1 found) no_members

-- The data of a value, given the data of its items or members.
abbrev pub view_step : Value-F Data → Data
view_step Value-F.Null = null
view_step (Value-F.Boolean b) = boolean b
view_step (Value-F.Number n) = number (number_view n)
view_step (Value-F.Text s) = string s.now
view_step (Value-F.Array v) = array (items_of v.items)
view_step (Value-F.Object v) = object (members_of v.items)

-- The JSON data that a parsed value represents.
abbrev pub view : Value → Data
view = fold-Value Data view_step

-- The data of the items of an array, in order.
abbrev pub items_view : List Value → Items
items_view vs = items_of (map view vs)

-- The data of the members of an object; if a name repeats, its last value counts.
abbrev pub members_view : List (Bor (List ℕ) × Value) → Members
members_view ms = members_of (map (λ m. (m.0, view m.1)) ms)
