-- Requests on the parts of a thesaurus: their checks and their effect.
use Rattle.std.specs.Prelude.{◌≡◌, ℕ, Bool, true, false, List, []}
use Rattle.std.specs.FinSet as set
use Rattle.thes_base.specs.declared.data.History.{History}
use Rattle.thes_base.specs.declared.data.Link.{Link}
use Rattle.thes_base.specs.declared.data.NewResource.{NewResource}
use Rattle.thes_base.specs.declared.data.NewResource.TheVariants.{Scheme, Concept, Collection, Outside}
use Rattle.thes_base.specs.declared.request.Command.{Command}
use Rattle.thes_base.specs.declared.request.Command.TheVariants as request
use Rattle.thes_base.specs.declared.fault.Refusal.TheVariants.{LinkThere}
use Rattle.thes_base.specs.RefusalRules.{RefusalRule, refused_if, accepted}
use Rattle.thes_base.specs.Links.{Links, Holds, normal_form}
use Rattle.thes_base.specs.RuleParts.{unless_links_consistent}
use Rattle.thes_base.specs.State.{State}
use Rattle.thes_base.specs.Machine.{next_state, refusal_rule_of}
use Rattle.thes_links.specs.GraphView.{MarksOutside}
use Rattle.thes_post.specs.PostingCounts.{ArePostingCounts}
use Rattle.thes_core.specs.declared.thesaurus.Thesaurus.{Thesaurus}
use Rattle.thes_core.specs.declared.facts.Facts.{Facts}
use Rattle.thes_core.specs.CoreDecisions.{IsAccepted, MayApply}
use Rattle.thes_core.specs.Facts.{AreFacts}
use Rattle.thes_core.specs.CoreView.{without_postings}
use Rattle.thes_core.specs.PartsView.{parts_state, setting_of, parts_view, AreLegal}

-- The rule that says which refusal a request gets, if any, in the state that has the parts and these histories.
abbrev pub RefusalByParts : Thesaurus → List History → Command → RefusalRule
RefusalByParts t histories command =
    let s = parts_state t histories in refusal_rule_of (setting_of t) s (next_state command s) command

-- The checks of a new link, in its normal form: LinkThere if the link is held, or else the first rule that this link
-- and the held ones break together. `outside` is the test for outside concepts, on which the normal form depends.
abbrev pub unless_linkable : (ℕ → Bool) → Links → Link → RefusalRule
unless_linkable outside links l =
    let kept = normal_form outside l in
    refused_if (Holds links kept) LinkThere (unless_links_consistent (Holds (set.insert links kept)) accepted)

-- The parts are legal, and the request passes all checks.
pub record PartsAccept (t : Thesaurus) (histories : List History) (command : Command) : Type 0 where
  pub kept : AreLegal t histories
  pub accepts : IsAccepted (setting_of t) (parts_state t histories) command

-- The parts are legal, and the request passes its checks in their state without postings: a Split with an empty list of
-- postings, a Post or a Withdraw without any check, any other request in full.
abbrev pub MayChange : Thesaurus → Command → Type 0
MayChange t command = AreLegal t [] × MayApply (parts_view t false) command

-- The new parts are those of the state `s`, with the base and limits of the old parts.
pub record PartsOfState (old : Thesaurus) (s : State) (new : Thesaurus) : Type 0 where
  pub state : parts_state new s.histories ≡ s
  pub setting : setting_of new ≡ setting_of old
  pub outside : MarksOutside new.vocab.resources new.graph

-- The new parts count the postings of the machine's next state.
abbrev pub CountsAfter : Command → List History → Thesaurus → Thesaurus → Type 0
CountsAfter command histories old new =
    ArePostingCounts (next_state command (parts_state old histories)).histories new.book

-- The new parts have the resources, IRIs, labels and links of the machine's next state, and the base and limits of the
-- old parts; their counts may be any.
abbrev pub PartsAfter : Command → Thesaurus → Thesaurus → Type 0
PartsAfter command old new = PartsOfState old (without_postings (next_state command (parts_state old []))) new

-- The new parts are those of the machine's next state. They count its postings for all histories that the old parts
-- count and with which the request is accepted.
pub record IsChangedBy (command : Command) (old new : Thesaurus) : Type 0 where
  pub becomes : PartsAfter command old new
  pub counts : (histories : List History) → PartsAccept old histories command → ArePostingCounts histories old.book
      → CountsAfter command histories old new

-- The histories match: the request is accepted with them, the parts count them, and the facts are theirs.
pub record AreMatching (t : Thesaurus) (command : Command) (facts : Facts) (histories : List History) : Type 0 where
  pub allows : PartsAccept t histories command
  pub posting_counts : ArePostingCounts histories t.book
  pub are_facts : AreFacts command histories facts

-- The request that creates the resource.
abbrev pub creation_request : NewResource → Command
creation_request (Scheme tag text) = request.Scheme tag text
creation_request (Concept scheme tag text) = request.Concept scheme tag text
creation_request (Collection scheme tag text) = request.Collection scheme tag text
creation_request (Outside iri) = request.Outside iri

-- Whether the new resource is an outside concept.
abbrev pub is_foreign : NewResource → Bool
is_foreign (Outside iri) = true
is_foreign _ = false
