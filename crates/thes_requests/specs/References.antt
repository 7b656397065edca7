-- References in the requests of a plan: strings such as `"$3"` in place of numbers.
use Rattle.std.specs.Prelude.{ℕ, min, ◌==◌, ◌||◌, ◌&&◌, not, Bool, true, false, List, [], ◌∷◌, codes, Option, None, Some}
use Rattle.std.specs.Prelude.{option_and_then, if◌then◌else◌}
use Rattle.std.specs.Char.{is_ascii_digit}
use Rattle.std.specs.List.{list_all}
use Rattle.std.specs.Str.{bytes_eq}
use Rattle.std.specs.Str.Parse.{digits_value}
use Rattle.serde_json.specs.Data.{Data, number, unsigned, array, object, Items, no_items, item, Members, no_members, member}
use Rattle.serde_json.specs.Find.{get, as_str, as_array}
use Rattle.thes_requests.specs.declared.keywords.CommandKeyword.{CommandKeyword}
use Rattle.thes_requests.specs.declared.keywords.CommandKeyword.TheVariants as does

-- The cap on the place to which a reference refers: 2³² - 1, which is beyond the end of every plan.
abbrev pub greatest_place : ℕ
greatest_place = 4294967295

-- Whether there is at least one byte, and the first of several isn't a zero.
abbrev pub begins_place : List ℕ → Bool
begins_place [] = false
begins_place (b ∷ []) = true
begins_place (b ∷ c ∷ bs) = not (b == 48)

-- Whether the bytes are one or more decimal digits, the first of which isn't a zero unless it is the only one.
abbrev pub is_place : List ℕ → Bool
is_place bytes = list_all is_ascii_digit bytes && begins_place bytes

-- The place to which a text refers: a dollar sign, and the digits of the place. A place beyond `greatest_place` is read
-- as `greatest_place`.
abbrev pub place_in : List ℕ → Option ℕ
place_in [] = None
place_in (b ∷ digits) =
    if (b == 36) && is_place digits then Some (min (digits_value 10 digits) greatest_place) else None

-- The place to which a value refers, if it is a reference.
abbrev pub reference_in : Data → Option ℕ
reference_in d = option_and_then place_in (as_str d)

-- The name of the member with the command's first number, or None if a command with this keyword has no number.
abbrev pub first_name : CommandKeyword → Option (List ℕ)
first_name does.Scheme = None
first_name does.Concept = Some (codes "scheme")
first_name does.Collection = Some (codes "scheme")
first_name does.Outside = None
first_name does.AddLabel = Some (codes "owner")
first_name does.DropLabel = Some (codes "owner")
first_name does.Relabel = Some (codes "owner")
first_name does.Link = Some (codes "a")
first_name does.Unlink = Some (codes "a")
first_name does.Deprecate = Some (codes "concept")
first_name does.Merge = Some (codes "source")
first_name does.Split = Some (codes "source")
first_name does.Post = Some (codes "concept")
first_name does.Withdraw = Some (codes "posting")

-- The name of the member with the command's second number, or None if a command with this keyword has only one or none.
abbrev pub second_name : CommandKeyword → Option (List ℕ)
second_name does.Link = Some (codes "b")
second_name does.Unlink = Some (codes "b")
second_name does.Merge = Some (codes "target")
second_name _ = None

-- The place to which the member with this name refers, or None if there is no name or the member isn't a reference.
abbrev pub reference_at : Option (List ℕ) → Data → Option ℕ
reference_at name d = option_and_then (λ n. option_and_then reference_in (get n d)) name

-- For each item, the place to which it refers, if it is a reference.
abbrev pub item_references : Items → List (Option ℕ)
item_references no_items = []
item_references (item d ds) = reference_in d ∷ item_references ds

-- The references of the items of an array, or an empty list if there is no array.
abbrev pub array_references : Option Items → List (Option ℕ)
array_references None = []
array_references (Some ds) = item_references ds

-- For each posting that a split lists, the place to which it refers, if it is a reference; an empty list for other
-- commands.
abbrev pub listed_references : CommandKeyword → Data → List (Option ℕ)
listed_references does.Split d = array_references (option_and_then as_array (get (codes "postings") d))
listed_references _ d = []

-- 1 if there is a reference, else the value.
abbrev pub one_or : Data → Option ℕ → Data
one_or d None = d
one_or d (Some place) = number (unsigned 1)

-- 1 in place of a reference, and any other value unchanged.
abbrev pub without_reference : Data → Data
without_reference d = one_or d (reference_in d)

-- The items with 1 in place of each reference.
abbrev pub items_without_references : Items → Items
items_without_references no_items = no_items
items_without_references (item d ds) = item (without_reference d) (items_without_references ds)

-- An array with 1 in place of each reference among its items, and any other value unchanged.
abbrev pub list_without_references : Data → Data
list_without_references (array ds) = array (items_without_references ds)
list_without_references d = d

-- Whether a member with this name is a number in some command.
abbrev pub is_number_name : List ℕ → Bool
is_number_name name =
    bytes_eq name (codes "scheme") || (bytes_eq name (codes "owner") || (bytes_eq name (codes "a")
    || (bytes_eq name (codes "b") || (bytes_eq name (codes "concept") || (bytes_eq name (codes "source")
    || (bytes_eq name (codes "target") || bytes_eq name (codes "posting")))))))

-- The value of a member with 1 in place of each reference that is used as a number.
abbrev pub member_without_references : List ℕ → Data → Data
member_without_references name d =
    if is_number_name name then without_reference d
    else if bytes_eq name (codes "postings") then list_without_references d
    else d

-- The members with 1 in place of each reference that is used as a number.
abbrev pub members_without_references : Members → Members
members_without_references no_members = no_members
members_without_references (member name d ms) =
    member name (member_without_references name d) (members_without_references ms)

-- An object with 1 in place of each reference used as a number, and any other value unchanged.
abbrev pub without_references : Data → Data
without_references (object ms) = object (members_without_references ms)
without_references d = d
