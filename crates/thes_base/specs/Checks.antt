-- The checks of each request, in the order of docs/REQUESTS.md. Each check covers all arguments of the request before
-- the next check begins. A Post with a known key is answered before its checks (Machine).
use Rattle.std.specs.Prelude.{◌≡◌, List, [], ◌∷◌, Some}
use Rattle.thes_base.specs.Types.{Text}
use Rattle.std.specs.FinMap as dict
use Rattle.thes_base.specs.declared.data.LabelKind.TheVariants.{Pref}
use Rattle.thes_base.specs.declared.fault.Refusal.TheVariants as no
use Rattle.thes_base.specs.declared.request.Command.{Command}
use Rattle.thes_base.specs.declared.request.Command.TheVariants as request
use Rattle.thes_base.specs.RefusalRules.{Check, ◌when◌, ◌unless◌, ◌for_some◌}
use Rattle.thes_base.specs.Resources.{Exists, IsScheme, IsConcept, IsLive, CanOwn, BeginsWith, scheme_of, is_outside}
use Rattle.thes_base.specs.Resources.{replacements}
use Rattle.thes_base.specs.Labels.{HasLabel, S13, S14, UniquePreferred}
use Rattle.thes_base.specs.Links.{Holds, NoCycle, S27, S46, form_of, normal_form}
use Rattle.thes_base.specs.Postings.{assigned_count, path_end}
use Rattle.thes_base.specs.State.{State, IsWithinLimits}
use Rattle.thes_base.specs.Changes.{owned_label, link}
use Rattle.thes_base.specs.Refusals.{Setting, LeavesPreferred, AreEnds, HaveSchemes, EachOnce, EachListed}
use Rattle.thes_base.specs.Refusals.{IsKnownPosting, IsNotWithdrawn, IsPlacedAt}

-- The checks of a request in order, given the state before it and the state after it if it is accepted.
abbrev pub checks_of : Setting → State → State → Command → List Check
checks_of setting s after (request.Scheme tag text) =
    no.TooMany unless IsWithinLimits setting.limits s after
    ∷ []
checks_of setting s after (request.Concept scheme tag text) =
    no.UnknownResource unless Exists s.resources scheme
    ∷ no.WrongKind unless IsScheme s.resources scheme
    ∷ no.PreferredTaken unless UniquePreferred after.resources after.labels
    ∷ no.TooMany unless IsWithinLimits setting.limits s after
    ∷ []
checks_of setting s after (request.Collection scheme tag text) =
    no.UnknownResource unless Exists s.resources scheme
    ∷ no.WrongKind unless IsScheme s.resources scheme
    ∷ no.TooMany unless IsWithinLimits setting.limits s after
    ∷ []
checks_of setting s after (request.Outside iri) =
    no.WrongKind when BeginsWith iri setting.base
    ∷ no.OutsideKnown for_some (λ n. dict.get s.iris n ≡ Some iri)
    ∷ no.TooMany unless IsWithinLimits setting.limits s after
    ∷ []
checks_of setting s after (request.AddLabel owner l) =
    no.UnknownResource unless Exists s.resources owner
    ∷ no.WrongKind unless CanOwn s.resources owner
    ∷ no.NotLive unless IsLive s.resources owner
    ∷ no.LabelThere when HasLabel s.labels owner l.kind l.tag l.text
    ∷ no.S13 unless S13 after.labels
    ∷ no.S14 unless S14 after.labels
    ∷ no.PreferredTaken unless UniquePreferred after.resources after.labels
    ∷ no.TooMany unless IsWithinLimits setting.limits s after
    ∷ []
checks_of setting s after (request.DropLabel owner l) =
    no.UnknownResource unless Exists s.resources owner
    ∷ no.WrongKind unless CanOwn s.resources owner
    ∷ no.NotLive unless IsLive s.resources owner
    ∷ no.NoSuchLabel unless HasLabel s.labels owner l.kind l.tag l.text
    ∷ no.LastPreferred unless LeavesPreferred s.labels (owned_label owner l)
    ∷ []
checks_of setting s after (request.Relabel owner tag text keep) =
    no.UnknownResource unless Exists s.resources owner
    ∷ no.WrongKind unless CanOwn s.resources owner
    ∷ no.NotLive unless IsLive s.resources owner
    ∷ no.NoSuchLabel unless ((old : Text) × HasLabel s.labels owner Pref tag old)
    ∷ no.S13 unless S13 after.labels
    ∷ no.PreferredTaken unless UniquePreferred after.resources after.labels
    ∷ no.TooMany unless IsWithinLimits setting.limits s after
    ∷ []
checks_of setting s after (request.Link kind a b) =
    no.UnknownResource unless (Exists s.resources a × Exists s.resources b)
    ∷ no.WrongKind unless AreEnds s.resources (form_of kind) a b
    ∷ no.NotLive unless (IsLive s.resources a × IsLive s.resources b)
    ∷ no.SameResource when (a ≡ b)
    ∷ no.OtherScheme unless HaveSchemes s.resources (form_of kind) a b
    ∷ no.LinkThere when Holds s.links (normal_form (is_outside s.resources) (link kind a b))
    ∷ no.Cycle unless NoCycle (Holds after.links)
    ∷ no.S27 unless S27 (Holds after.links)
    ∷ no.S46 unless S46 (Holds after.links)
    ∷ no.TooMany unless IsWithinLimits setting.limits s after
    ∷ []
checks_of setting s after (request.Unlink kind a b) =
    no.UnknownResource unless (Exists s.resources a × Exists s.resources b)
    ∷ no.WrongKind unless AreEnds s.resources (form_of kind) a b
    ∷ no.NotLive unless (IsLive s.resources a × IsLive s.resources b)
    ∷ no.SameResource when (a ≡ b)
    ∷ no.OtherScheme unless HaveSchemes s.resources (form_of kind) a b
    ∷ no.NoSuchLink unless Holds s.links (normal_form (is_outside s.resources) (link kind a b))
    ∷ []
checks_of setting s after (request.Deprecate concept) =
    no.UnknownResource unless Exists s.resources concept
    ∷ no.WrongKind unless IsConcept s.resources concept
    ∷ no.NotLive unless IsLive s.resources concept
    ∷ no.HasPostings unless (assigned_count concept s.histories ≡ 0)
    ∷ []
checks_of setting s after (request.Merge source target) =
    no.UnknownResource unless (Exists s.resources source × Exists s.resources target)
    ∷ no.WrongKind unless (IsConcept s.resources source × IsConcept s.resources target)
    ∷ no.NotLive unless (IsLive s.resources source × IsLive s.resources target)
    ∷ no.SameResource when (source ≡ target)
    ∷ no.OtherScheme unless (scheme_of s.resources source ≡ scheme_of s.resources target)
    ∷ no.Cycle unless NoCycle (Holds after.links)
    ∷ no.S27 unless S27 (Holds after.links)
    ∷ no.S46 unless S46 (Holds after.links)
    ∷ no.TooMany unless IsWithinLimits setting.limits s after
    ∷ []
checks_of setting s after (request.Split source tag text postings) =
    no.UnknownResource unless Exists s.resources source
    ∷ no.WrongKind unless IsConcept s.resources source
    ∷ no.NotLive unless IsLive s.resources source
    ∷ no.ListedTwice unless EachOnce postings
    ∷ no.UnknownPosting unless EachListed (IsKnownPosting s.histories) postings
    ∷ no.Withdrawn unless EachListed (IsNotWithdrawn s.histories) postings
    ∷ no.NotAtSource unless EachListed (IsPlacedAt s.histories source) postings
    ∷ no.PreferredTaken unless UniquePreferred after.resources after.labels
    ∷ no.TooMany unless IsWithinLimits setting.limits s after
    ∷ []
checks_of setting s after (request.Post key rec concept) =
    no.UnknownResource unless Exists s.resources concept
    ∷ no.WrongKind unless IsConcept s.resources concept
    ∷ no.NotLive unless IsLive s.resources (path_end concept (replacements s.resources concept))
    ∷ no.TooMany unless IsWithinLimits setting.limits s after
    ∷ []
checks_of setting s after (request.Withdraw posting) =
    no.UnknownPosting unless IsKnownPosting s.histories posting
    ∷ no.Withdrawn unless IsNotWithdrawn s.histories posting
    ∷ []
