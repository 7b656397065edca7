-- The members of a JSON object, looked up by name and type.
use Rattle.std.specs.Prelude.{ℕ, ◌==◌, Bool, false, List, [], ◌∷◌, Option, None, Some, option_and_then, option_map}
use Rattle.std.specs.Prelude.{if◌then◌else◌, ⊤}
use Rattle.serde_json.specs.Data.{Num, Data, Items, no_items, item, Members}
use Rattle.serde_json.specs.Events.{members_len}
use Rattle.serde_json.specs.Find.{get, as_number, as_str, as_bool, as_array, as_object}

-- Whether the value is an object with exactly `n` names.
abbrev pub has_count : ℕ → Option Members → Bool
has_count n None = false
has_count n (Some ms) = members_len ms == n

-- Some if the value is an object with exactly `n` names, or else None.
abbrev pub counted_members : ℕ → Data → Option ⊤
counted_members n d = if has_count n (as_object d) then Some tt else None

-- The number in the member `name`; None if it is absent or of another type.
abbrev pub number_in : List ℕ → Data → Option Num
number_in name d = option_and_then as_number (get name d)

-- The text in the member `name`; None if it is absent or of another type.
abbrev pub text_in : List ℕ → Data → Option (List ℕ)
text_in name d = option_and_then as_str (get name d)

-- The Boolean in the member `name`; None if it is absent or of another type.
abbrev pub boolean_in : List ℕ → Data → Option Bool
boolean_in name d = option_and_then as_bool (get name d)

-- The items as numbers; None if one is of another type.
abbrev pub all_numbers : Items → Option (List Num)
all_numbers no_items = Some []
all_numbers (item d ds) =
    option_and_then (λ n. option_map (λ ns. n ∷ ns) (all_numbers ds)) (as_number d)

-- The array of numbers in the member `name`; None if it is absent or of another type.
abbrev pub numbers_in : List ℕ → Data → Option (List Num)
numbers_in name d = option_and_then all_numbers (option_and_then as_array (get name d))
