-- The forms in which several requests are sent: an array, or an object whose only member is `perform`, `try` or `each`.
use Rattle.std.specs.Prelude.{◌≡◌, ◌<◌, ◌≤◌, ◌||◌, ℕ, Bool, true, false, List, length, codes, is_some, unwrap_or}
use Rattle.std.specs.Prelude.{Option, Some, None, if◌then◌else◌}
use Rattle.serde_json.specs.Data.{Data, null, array}
use Rattle.serde_json.specs.Find.{get, as_object}
use Rattle.serde_json.specs.View.{items_of}
use Rattle.thes_requests.specs.Members.{has_count}
use Rattle.thes_requests.specs.declared.plan_form.PlanForm.{PlanForm}
use Rattle.thes_requests.specs.declared.plan_form.PlanForm.TheVariants.{Array, Perform, Try, Each}

-- The greatest number of requests of `each`.
abbrev pub each_limit : ℕ
each_limit = 1024

-- The form of a value, by the first of the three members that it has; a value with none is an array, or no plan.
abbrev pub form_in : Data → PlanForm
form_in d =
    if is_some (get (codes "perform") d) then Perform
    else if is_some (get (codes "try") d) then Try
    else if is_some (get (codes "each") d) then Each
    else Array

-- The value of an object's only member, if it has this name, or else null.
abbrev pub sole_member : List ℕ → Data → Data
sole_member name d = if has_count 1 (as_object d) then unwrap_or (get name d) null else null

-- Whether a form is that of an object.
abbrev pub is_object_form : PlanForm → Bool
is_object_form Array = false
is_object_form form = true

-- Whether a value is an array.
abbrev pub is_array : Data → Bool
is_array (array ds) = true
is_array d = false

-- Whether there is a JSON value that is read as several requests: an array, or an object with one of the members.
abbrev pub is_plan_value : Option Data → Bool
is_plan_value None = false
is_plan_value (Some d) = is_array d || is_object_form (form_in d)

-- The value is an array of these values, of which there are 1 to 1,024.
pub record IsEachArray (d : Data) (ds : List Data) : Type 0 where
  pub is_array : d ≡ array (items_of ds)
  pub some : 0 < length ds
  pub few : length ds ≤ each_limit
