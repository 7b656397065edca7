-- The meaning of the bytes of a plan: its requests, or the first fault. Four rules are checked in this order: the bytes
-- are JSON; the value is an array of 1 to 128 values; each of these is a request, checked from first to last; each
-- reference is to an earlier request that makes what is referred to.
use Rattle.std.specs.Prelude.{◌≡◌, ◌<◌, ◌≤◌, ◌+◌, ◌++◌, ℕ, List, [], ◌∷◌, length, codes, Option, None}
use Rattle.std.specs.Prelude.{Some, option_and_then, Result, Ok, Err, Vec}
use Rattle.std.specs.declared.alloc.Global.{Global}
use Rattle.serde_json.specs.Data.{Data, array}
use Rattle.serde_json.specs.Find.{get, as_str}
use Rattle.serde_json.specs.View.{items_of}
use Rattle.thes_base.specs.declared.fault.FormFault.{FormFault}
use Rattle.thes_base.specs.declared.fault.FormFault.TheVariants.{NotJson, BadShape}
use Rattle.thes_base.specs.declared.fault.ReadStop.{ReadStop}
use Rattle.thes_base.specs.declared.fault.ReadStop.TheVariants as stop
use Rattle.thes_base.specs.declared.request.Command.{Command}
use Rattle.thes_plans.specs.References.{AreGoodReferences, IsFirstBadReference}
use Rattle.thes_plans.specs.declared.plan.PlanRequest.{PlanRequest}
use Rattle.thes_requests.specs.Keywords.{verb_named}
use Rattle.thes_requests.specs.Readings.{RequestReading, ReadsAs, ◌>>=◌, present_or_bad_shape}
use Rattle.thes_requests.specs.References.{first_name, listed_references, reference_at, second_name, without_references}
use Rattle.thes_requests.specs.Requests.{command_in, json_in}
use Rattle.thes_requests.specs.declared.keywords.CommandKeyword.{CommandKeyword}
use Rattle.thes_requests.specs.declared.plan.PlanFault.{PlanFault}
use Rattle.thes_requests.specs.declared.plan.PlanFault.TheVariants.{Whole, Request, Reference}
use Rattle.thes_requests.specs.declared.plan.PlanStop.{PlanStop}
use Rattle.thes_requests.specs.declared.plan.PlanStop.TheVariants.{Bad, OutOfMemory}

-- The greatest number of requests in a plan.
abbrev pub request_limit : ℕ
request_limit = 128

-- The command that the member `do` names, if there is one.
abbrev pub keyword_in : Data → Option CommandKeyword
keyword_in d = option_and_then verb_named (option_and_then as_str (get (codes "do") d))

-- Reads the command of a plan's request like that of any request, with 1 in place of each reference that is used as a
-- number. A query is `BadShape`.
abbrev pub plan_command_in : Data → RequestReading Command
plan_command_in d = do
  verb ← present_or_bad_shape (keyword_in d)
  command_in verb (without_references d)

-- The value is this request of a plan: its command, and its references.
pub record IsPlanRequest (d : Data) (asked : PlanRequest) : Type 0 where
  pub verb : CommandKeyword
  pub keyword : keyword_in d ≡ Some verb
  pub command : ReadsAs (command_in verb (without_references d)) (Ok asked.command)
  pub first : asked.first ≡ reference_at (first_name verb) d
  pub second : asked.second ≡ reference_at (second_name verb) d
  pub postings : asked.postings.items ≡ listed_references verb d

-- The value isn't a request of a plan, and this is the fault that reading it returns.
abbrev pub IsNoPlanRequest : Data → FormFault → Type 0
IsNoPlanRequest d f = ReadsAs (plan_command_in d) (Err f)

-- The values are these requests, in order.
abbrev pub AreRequests : List Data → List PlanRequest → Type 0
AreRequests [] [] = Unit {0}
AreRequests [] (asked ∷ plan) = ⊥
AreRequests (d ∷ ds) [] = ⊥
AreRequests (d ∷ ds) (asked ∷ plan) = IsPlanRequest d asked × AreRequests ds plan

-- The value at this place, counted from 1, isn't a request, and this is its fault; all values before it are requests.
pub record IsFirstMalformed (ds : List Data) (place : ℕ) (f : FormFault) : Type 0 where
  pub before : List Data
  pub d : Data
  pub rest : List Data
  pub all : ds ≡ before ++ d ∷ rest
  pub place_is : place ≡ length before + 1
  pub plan : List PlanRequest
  pub requests : AreRequests before plan
  pub bad : IsNoPlanRequest d f

-- The value is an array of these values, of which there are 1 to 128.
pub record IsPlanArray (d : Data) (ds : List Data) : Type 0 where
  pub is_array : d ≡ array (items_of ds)
  pub some : 0 < length ds
  pub few : length ds ≤ request_limit

-- The value is an array of these requests, whose references aren't checked yet.
pub record IsPlanOfRequests (d : Data) (plan : List PlanRequest) : Type 0 where
  pub values : List Data
  pub is_array : IsPlanArray d values
  pub requests : AreRequests values plan

-- The value, read as a plan, has this outcome: the requests, or the first fault.
abbrev pub PlanValueReadsAs : Data → Result (List PlanRequest) PlanFault → Type 0
PlanValueReadsAs d (Ok plan) = IsPlanOfRequests d plan × AreGoodReferences plan
PlanValueReadsAs d (Err (Whole f)) = (f ≡ BadShape) × ((ds : List Data) → ¬ IsPlanArray d ds)
PlanValueReadsAs d (Err (Request place f)) =
    (ds : List Data) × IsPlanArray d ds × IsFirstMalformed ds place f
PlanValueReadsAs d (Err (Reference place)) =
    (plan : List PlanRequest) × IsPlanOfRequests d plan × IsFirstBadReference plan place

-- The JSON value of a text, read as a plan, has this outcome; `NotJson` if the text has none.
abbrev pub OptionReadsAs : Option Data → Result (List PlanRequest) PlanFault → Type 0
OptionReadsAs None outcome = outcome ≡ Err (Whole NotJson)
OptionReadsAs (Some d) outcome = PlanValueReadsAs d outcome

-- The bytes, read as a plan, have this outcome: the requests, or the first fault.
abbrev pub PlanReadsAs : List ℕ → Result (List PlanRequest) PlanFault → Type 0
PlanReadsAs bytes outcome = OptionReadsAs (json_in bytes) outcome

-- The result of reading a plan is an outcome for which `Reads` holds, or memory ran out.
abbrev pub GivesPlan : (Result (List PlanRequest) PlanFault → Type 0) → Result (Vec PlanRequest Global) PlanStop
    → Type 0
GivesPlan Reads (Ok plan) = Reads (Ok plan.items)
GivesPlan Reads (Err (Bad f)) = Reads (Err f)
GivesPlan Reads (Err OutOfMemory) = Unit {0}

-- The result of reading a value as a request of a plan: that request, the fault of a value that isn't one, or
-- `OutOfMemory`.
abbrev pub GivesPlanRequest : Data → Result PlanRequest ReadStop → Type 0
GivesPlanRequest d (Ok asked) = IsPlanRequest d asked
GivesPlanRequest d (Err (stop.Form f)) = IsNoPlanRequest d f
GivesPlanRequest d (Err stop.OutOfMemory) = Unit {0}

-- Values, read as requests, have this outcome: the requests, or the fault of the first that isn't one.
abbrev pub RequestsReadAs : List Data → Result (List PlanRequest) PlanFault → Type 0
RequestsReadAs ds (Ok plan) = AreRequests ds plan
RequestsReadAs ds (Err (Request place f)) = IsFirstMalformed ds place f
RequestsReadAs ds (Err f) = ⊥
