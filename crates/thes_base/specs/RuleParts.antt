-- Rules that check a part of a request, for the contracts of the functions that check these parts. They don't define
-- the rule of any request: Checks lists the checks of each. The name of each part states the condition under which it
-- leaves the decision to the remaining rule.
use Rattle.std.specs.Prelude.{◌≡◌, List, Some, true}
use Rattle.std.specs.FinMap as dict
use Rattle.std.specs.FinSet as set
use Rattle.thes_base.specs.Types.{Tag, Text, Iri, Number}
use Rattle.thes_base.specs.declared.data.History.{History}
use Rattle.thes_base.specs.declared.data.LabelKind.TheVariants.{Pref}
use Rattle.thes_base.specs.declared.data.Link.{Link}
use Rattle.thes_base.specs.declared.data.Resource.{Resource}
use Rattle.thes_base.specs.declared.fault.Refusal.TheVariants as no
use Rattle.thes_base.specs.RefusalRules.{RefusalRule, refused_if, refused_unless, refused_for, accepted}
use Rattle.thes_base.specs.Resources.{Iris, Exists, IsScheme, IsConcept, IsLive, CanOwn, BeginsWith, scheme_of}
use Rattle.thes_base.specs.Resources.{replacements}
use Rattle.thes_base.specs.Labels.{Label, Labels, HasLabel, S13, S14, UniquePreferred}
use Rattle.thes_base.specs.Links.{NoCycle, S27, S46, form_of}
use Rattle.thes_base.specs.Postings.{path_end}
use Rattle.thes_base.specs.State.{State, IsWithinLimits}
use Rattle.thes_base.specs.Refusals.{Setting, LeavesPreferred, AreEnds, HaveSchemes, EachOnce, EachListed}
use Rattle.thes_base.specs.Refusals.{IsKnownPosting, IsNotWithdrawn, IsPlacedAt}

-- Refuses unless every count is within its limit or hasn't risen.
abbrev pub unless_within_limits : Setting → State → State → RefusalRule
unless_within_limits setting before after =
    refused_unless (IsWithinLimits setting.limits before after) no.TooMany accepted

-- Refuses unless preferred labels are unique in each scheme.
abbrev pub unless_unique : List Resource → Labels → RefusalRule → RefusalRule
unless_unique resources labels = refused_unless (UniquePreferred resources labels) no.PreferredTaken

-- Refuses unless the number belongs to a resource of the right kind.
abbrev pub unless_resource : (Number → Type 0) → List Resource → Number → RefusalRule → RefusalRule
unless_resource is_right resources n rest =
    refused_unless (Exists resources n) no.UnknownResource
    (refused_unless (is_right n) no.WrongKind rest)

-- Refuses unless the number belongs to a scheme.
abbrev pub unless_scheme : List Resource → Number → RefusalRule → RefusalRule
unless_scheme resources scheme = unless_resource (IsScheme resources) resources scheme

-- Refuses unless the number belongs to a concept, live or not.
abbrev pub unless_concept : State → Number → RefusalRule
unless_concept s n = unless_resource (IsConcept s.resources) s.resources n accepted

-- Refuses an IRI that begins with the base, or that an outside concept already has.
abbrev pub unless_new_foreign_iri : Iri → Iris → Iri → RefusalRule → RefusalRule
unless_new_foreign_iri base iris iri rest =
    refused_if (BeginsWith iri base) no.WrongKind
    (refused_for (λ n. dict.get iris n ≡ Some iri) no.OutsideKnown rest)

-- Refuses unless the number belongs to a live scheme, concept or collection.
abbrev pub unless_owner : List Resource → Number → RefusalRule → RefusalRule
unless_owner resources owner rest =
    unless_resource (CanOwn resources) resources owner
    (refused_unless (IsLive resources owner) no.NotLive rest)

-- Refuses unless the label is new, and the labels with it, `after`, break no rule.
abbrev pub unless_new_label : Labels → List Resource → Labels → Label → RefusalRule → RefusalRule
unless_new_label labels resources after l rest =
    refused_if (set.contains labels l ≡ true) no.LabelThere
    (refused_unless (S13 after) no.S13
    (refused_unless (S14 after) no.S14
    (unless_unique resources after rest)))

-- Refuses unless the owner has the label, and it isn't the owner's last preferred one.
abbrev pub unless_droppable : Labels → Label → RefusalRule → RefusalRule
unless_droppable labels l rest =
    refused_unless (set.contains labels l ≡ true) no.NoSuchLabel
    (refused_unless (LeavesPreferred labels l) no.LastPreferred rest)

-- Refuses unless the owner has a preferred label in the tag, and the labels after its replacement, `after`, break no
-- rule.
abbrev pub unless_replaceable_preferred : Labels → List Resource → Labels → Number → Tag → RefusalRule → RefusalRule
unless_replaceable_preferred labels resources after owner tag rest =
    refused_unless ((old : Text) × HasLabel labels owner Pref tag old) no.NoSuchLabel
    (refused_unless (S13 after) no.S13
    (unless_unique resources after rest))

-- Refuses unless the ends are two live resources of the right kinds and schemes.
abbrev pub unless_ends : List Resource → Link → RefusalRule → RefusalRule
unless_ends resources l rest =
    refused_unless (Exists resources l.a × Exists resources l.b) no.UnknownResource
    (refused_unless (AreEnds resources (form_of l.kind) l.a l.b) no.WrongKind
    (refused_unless (IsLive resources l.a × IsLive resources l.b) no.NotLive
    (refused_if (l.a ≡ l.b) no.SameResource
    (refused_unless (HaveSchemes resources (form_of l.kind) l.a l.b) no.OtherScheme
    rest))))

-- Refuses unless the number belongs to a live concept.
abbrev pub unless_live_concept : List Resource → Number → RefusalRule → RefusalRule
unless_live_concept resources n rest =
    unless_resource (IsConcept resources) resources n
    (refused_unless (IsLive resources n) no.NotLive rest)

-- Refuses unless the number belongs to a concept that is live or, if it was replaced, whose last replacement is live.
abbrev pub unless_forwardable : List Resource → Number → RefusalRule → RefusalRule
unless_forwardable resources n rest =
    unless_resource (IsConcept resources) resources n
    (refused_unless (IsLive resources (path_end n (replacements resources n))) no.NotLive rest)

-- Refuses unless the numbers belong to two live concepts of one scheme.
abbrev pub unless_pair : List Resource → Number → Number → RefusalRule → RefusalRule
unless_pair resources source target rest =
    refused_unless (Exists resources source × Exists resources target) no.UnknownResource
    (refused_unless (IsConcept resources source × IsConcept resources target) no.WrongKind
    (refused_unless (IsLive resources source × IsLive resources target) no.NotLive
    (refused_if (source ≡ target) no.SameResource
    (refused_unless (scheme_of resources source ≡ scheme_of resources target) no.OtherScheme
    rest))))

-- Refuses unless the numbers listed are different, and belong to postings assigned to the source.
abbrev pub unless_split_postings : List History → Number → List Number → RefusalRule → RefusalRule
unless_split_postings histories source postings rest =
    refused_unless (EachOnce postings) no.ListedTwice
    (refused_unless (EachListed (IsKnownPosting histories) postings) no.UnknownPosting
    (refused_unless (EachListed (IsNotWithdrawn histories) postings) no.Withdrawn
    (refused_unless (EachListed (IsPlacedAt histories source) postings) no.NotAtSource
    rest)))

-- Refuses unless the number belongs to a posting that isn't withdrawn.
abbrev pub unless_assigned : List History → Number → RefusalRule → RefusalRule
unless_assigned histories posting rest =
    refused_unless (IsKnownPosting histories posting) no.UnknownPosting
    (refused_unless (IsNotWithdrawn histories posting) no.Withdrawn
    rest)

-- Refuses by the first rule that the links break, in the order Cycle, S27, S46.
abbrev pub unless_links_consistent : (Link → Type 0) → RefusalRule → RefusalRule
unless_links_consistent Held rest =
    refused_unless (NoCycle Held) no.Cycle
    (refused_unless (S27 Held) no.S27
    (refused_unless (S46 Held) no.S46
    rest))
