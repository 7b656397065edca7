-- Laws of reading requests and plans: bytes have one meaning as a request, and at most one as a plan.
use Rattle.std.specs.Prelude.{◌≡◌, ℕ, List, [], ◌∷◌, Option, Some, Result, Ok, Err}
use Rattle.serde_json.specs.Data.{Data}
use Rattle.thes_base.specs.declared.fault.Fault.{Fault}
use Rattle.thes_base.specs.declared.fault.FormFault.{FormFault}
use Rattle.thes_plans.specs.declared.plan.PlanRequest.{PlanRequest}
use Rattle.thes_requests.specs.PlanReadings.{OptionReadsAs}
use Rattle.thes_requests.specs.Readings.{ReadsAs}
use Rattle.thes_requests.specs.Requests.{request_of}
use Rattle.thes_requests.specs.declared.plan.PlanFault.{PlanFault}
use Rattle.thes_requests.specs.declared.plan_reply.PlanReply.{PlanReply}
use Rattle.thes_requests.specs.declared.plan_reply.PlanReply.TheVariants.{Reported}
use Rattle.thes_requests.specs.declared.request.Request.{Request}

-- Bytes have at most one meaning: one request, or one form fault.
abbrev pub OneReading : Type 0
OneReading =
    (bytes : List ℕ) (x y : Result Request FormFault)
    → ReadsAs (request_of bytes) x → ReadsAs (request_of bytes) y → x ≡ y

-- All bytes have a meaning, stated as a double negation.
abbrev pub SomeReading : Type 0
SomeReading =
    (bytes : List ℕ) → ¬ ¬ ((x : Result Request FormFault) × ReadsAs (request_of bytes) x)

-- Two requests of a plan are the same: they have the same command and the same references.
pub record SameAsked (a b : PlanRequest) : Type 0 where
  pub command : a.command ≡ b.command
  pub first : a.first ≡ b.first
  pub second : a.second ≡ b.second
  pub postings : a.postings.items ≡ b.postings.items

-- Two plans have the same requests, in order.
abbrev pub SamePlans : List PlanRequest → List PlanRequest → Type 0
SamePlans [] [] = Unit {0}
SamePlans [] (b ∷ q) = ⊥
SamePlans (a ∷ p) [] = ⊥
SamePlans (a ∷ p) (b ∷ q) = SameAsked a b × SamePlans p q

-- Two outcomes of reading a plan are the same: the requests, or the fault.
abbrev pub SameReading : Result (List PlanRequest) PlanFault → Result (List PlanRequest) PlanFault → Type 0
SameReading (Ok p) (Ok q) = SamePlans p q
SameReading (Ok p) (Err g) = ⊥
SameReading (Err f) (Ok q) = ⊥
SameReading (Err f) (Err g) = f ≡ g

-- A text, given by its JSON value if it has one, has at most one meaning as a plan.
abbrev pub OnePlanReading : Type 0
OnePlanReading =
    (value : Option Data) (x y : Result (List PlanRequest) PlanFault)
    → OptionReadsAs value x → OptionReadsAs value y → SameReading x y

-- Two replies are the same, but for the changes of rows that their reports list.
abbrev pub SameReply : PlanReply → PlanReply → Type 0
SameReply (Reported r) (Reported q) = (r.answers ≡ q.answers) × (r.end ≡ q.end)
SameReply r q = r ≡ q

-- The reply is a report whose last answer is a fault.
abbrev pub EndsInFault : PlanReply → Type 0
EndsInFault (Reported report) = (fault : Fault) × (report.end.fault ≡ Some fault)
EndsInFault reply = ⊥
