-- The replacement of references by the numbers in the answers to earlier requests.
use Rattle.std.specs.Prelude.{ℕ, zero, suc, List, [], ◌∷◌, ◌++◌, Option, None, Some, slice_get}
use Rattle.thes_base.specs.Types.{Number}
use Rattle.thes_base.specs.Resources.{entry_at}
use Rattle.thes_base.specs.declared.request.Answer.{Answer}
use Rattle.thes_base.specs.declared.request.Answer.TheVariants as reply
use Rattle.thes_base.specs.declared.request.Command.{Command}
use Rattle.thes_base.specs.declared.request.Command.TheVariants as request
use Rattle.thes_plans.specs.declared.plan.PlanRequest.{PlanRequest}

-- The number that a request made or found: of the new resource, or of the posting. 0 if its answer has none.
abbrev pub answer_number : Answer → ℕ
answer_number (reply.Number n) = n
answer_number (reply.Again n) = n
answer_number (reply.Parted n count) = n
answer_number _ = zero

-- The number, or `own` in place of 0.
abbrev pub number_or : Number → ℕ → Number
number_or own zero = own
number_or own (suc n) = suc n

-- The number that the request at this place made or found; `own` if there is no answer to it, or none with a number.
abbrev pub answer_number_at : List Answer → Number → ℕ → Number
answer_number_at answers own place =
    elim (entry_at answers place) [ None ↦ own | Some answer ↦ number_or own (answer_number answer) ]

-- The number to which the reference refers; `own` if there is no reference, or no answer with a number for it.
abbrev pub resolved_number : List Answer → Option ℕ → Number → Number
resolved_number answers None own = own
resolved_number answers (Some place) own = answer_number_at answers own place

-- The reference at an index; None for a number without one, and beyond the end of the list.
abbrev pub reference_of : List (Option ℕ) → ℕ → Option ℕ
reference_of references index = elim (slice_get references index) [ None ↦ None | Some reference ↦ reference ]

-- The numbers to which the references refer; a number beyond the references stays.
abbrev pub resolved_numbers : List Answer → List (Option ℕ) → List Number → List Number
resolved_numbers answers references [] = []
resolved_numbers answers [] (own ∷ owns) = own ∷ owns
resolved_numbers answers (reference ∷ references) (own ∷ owns) =
    resolved_number answers reference own ∷ resolved_numbers answers references owns

-- The command after `first` is applied to its first number, `second` to its second, and `listed` to the postings that
-- it lists.
abbrev pub with_numbers : (Number → Number) → (Number → Number) → (List Number → List Number) → Command → Command
with_numbers first second listed (request.Scheme tag text) = request.Scheme tag text
with_numbers first second listed (request.Concept scheme tag text) = request.Concept (first scheme) tag text
with_numbers first second listed (request.Collection scheme tag text) = request.Collection (first scheme) tag text
with_numbers first second listed (request.Outside iri) = request.Outside iri
with_numbers first second listed (request.AddLabel owner l) = request.AddLabel (first owner) l
with_numbers first second listed (request.DropLabel owner l) = request.DropLabel (first owner) l
with_numbers first second listed (request.Relabel owner tag text keep) = request.Relabel (first owner) tag text keep
with_numbers first second listed (request.Link kind a b) = request.Link kind (first a) (second b)
with_numbers first second listed (request.Unlink kind a b) = request.Unlink kind (first a) (second b)
with_numbers first second listed (request.Deprecate concept) = request.Deprecate (first concept)
with_numbers first second listed (request.Merge source target) = request.Merge (first source) (second target)
with_numbers first second listed (request.Split source tag text postings) =
    request.Split (first source) tag text (listed postings)
with_numbers first second listed (request.Post key rec concept) = request.Post key rec (first concept)
with_numbers first second listed (request.Withdraw posting) = request.Withdraw (first posting)

-- The command of a request, with each reference replaced by the number that the answers have for it, if they have one.
abbrev pub resolved_command : List Answer → PlanRequest → Command
resolved_command answers asked =
    with_numbers (resolved_number answers asked.first) (resolved_number answers asked.second)
    (resolved_numbers answers asked.postings.items) asked.command

-- The commands of the requests that have answers, each resolved by the answers to the requests before it. `before` are
-- the answers to the requests before the list.
abbrev pub resolved_commands : List Answer → List PlanRequest → List Answer → List Command
resolved_commands before [] answers = []
resolved_commands before (asked ∷ plan) [] = []
resolved_commands before (asked ∷ plan) (answer ∷ answers) =
    resolved_command before asked ∷ resolved_commands (before ++ answer ∷ []) plan answers
