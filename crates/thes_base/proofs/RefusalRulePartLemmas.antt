-- A part of a rule can be checked alone: if it refuses, the rule gives the same refusal; if it accepts, the remaining
-- rule decides.
use Rattle.std.proofs.Common.{ℕ, inl, inr, refl}
use Rattle.std.specs.Prelude.{Option, None, Some, List}
use Rattle.thes_base.specs.declared.data.Resource.{Resource}
use Rattle.thes_base.specs.declared.data.Link.{Link}
use Rattle.thes_base.specs.declared.data.History.{History}
use Rattle.thes_base.specs.declared.fault.Refusal.{Refusal}
use Rattle.thes_base.specs.declared.fault.Refusal.TheVariants as no
use Rattle.thes_base.specs.RefusalRules.{RefusalRule, refused_if, refused_unless, accepted}
use Rattle.thes_base.specs.Resources.{IsScheme}
use Rattle.thes_base.specs.Labels.{Labels}
use Rattle.thes_base.specs.RuleParts.{unless_unique, unless_resource, unless_scheme, unless_owner}
use Rattle.thes_base.specs.RuleParts.{unless_replaceable_preferred}
use Rattle.thes_base.specs.RuleParts.{unless_ends, unless_live_concept, unless_pair, unless_split_postings}

-- The function is a part of a rule: before every remaining rule it refuses and accepts as it does before `accepted`.
pub record IsRulePart (part : RefusalRule → RefusalRule) : Type 1 where
  pub stops : (rest : RefusalRule) (name : Refusal) → part accepted (Some name) → part rest (Some name)
  pub passes : (rest : RefusalRule) (answer : Option Refusal) → part accepted None → rest answer → part rest answer
  pub opens : (rest : RefusalRule) → part rest None → part accepted None × rest None
  pub past : (rest : RefusalRule) (answer : Option Refusal) → part accepted None → part rest answer → rest answer

-- The part that has no checks.
nothing : IsRulePart (λ rest. rest)
nothing = record {
  stops = λ rest name e. absurd (cc);
  passes = λ rest answer e says. says;
  opens =
      λ rest says. (refl, says);
  past = λ rest answer e says. says;
}

-- A check that refuses if a condition holds, followed by a part, is a part.
then_if : (sentence : Type 0) (name : Refusal) (part : RefusalRule → RefusalRule) → IsRulePart part
    → IsRulePart (λ rest. refused_if sentence name (part rest))
then_if sentence name part is = record { stops = stops; passes = passes; opens = opens; past = past }
  where
    stops : (rest : RefusalRule) (other : Refusal) → refused_if sentence name (part accepted) (Some other)
        → refused_if sentence name (part rest) (Some other)
    stops rest other (inl found) = inl found
    stops rest other (inr (holds_not, says)) = inr (holds_not, is.stops rest other says)

    passes : (rest : RefusalRule) (answer : Option Refusal) → refused_if sentence name (part accepted) None
        → rest answer → refused_if sentence name (part rest) answer
    passes rest answer (inl (holds, e)) says = absurd (cc)
    passes rest answer (inr (holds_not, part_passes)) says = inr (holds_not, is.passes rest answer part_passes says)

    opens : (rest : RefusalRule) → refused_if sentence name (part rest) None → refused_if sentence name
        (part accepted) None × rest None
    opens rest (inl (holds, e)) = absurd (cc)
    opens rest (inr (holds_not, says)) = let o = is.opens rest says in (inr (holds_not, o.0), o.1)

    past : (rest : RefusalRule) (answer : Option Refusal) → refused_if sentence name (part accepted) None
        → refused_if sentence name (part rest) answer → rest answer
    past rest answer (inl (holds, e)) says = absurd (cc)
    past rest answer (inr (holds_not, part_passes)) (inl (holds, e)) = absurd (holds_not holds)
    past rest answer (inr (holds_not, part_passes)) (inr (_, says)) = is.past rest answer part_passes says

-- A check that refuses unless a condition holds, followed by a part, is a part.
then_unless : (condition : Type 0) (name : Refusal) (part : RefusalRule → RefusalRule) → IsRulePart part
    → IsRulePart (λ rest. refused_unless condition name (part rest))
then_unless condition name part is = record { stops = stops; passes = passes; opens = opens; past = past }
  where
    stops : (rest : RefusalRule) (other : Refusal) → refused_unless condition name (part accepted) (Some other)
        → refused_unless condition name (part rest) (Some other)
    stops rest other (inl found) = inl found
    stops rest other (inr (holds, says)) = inr (holds, is.stops rest other says)

    passes : (rest : RefusalRule) (answer : Option Refusal) → refused_unless condition name (part accepted) None
        → rest answer → refused_unless condition name (part rest) answer
    passes rest answer (inl (holds_not, e)) says = absurd (cc)
    passes rest answer (inr (holds, part_passes)) says = inr (holds, is.passes rest answer part_passes says)

    opens : (rest : RefusalRule) → refused_unless condition name (part rest) None → refused_unless condition name
        (part accepted) None × rest None
    opens rest (inl (holds_not, e)) = absurd (cc)
    opens rest (inr (holds, says)) = let o = is.opens rest says in (inr (holds, o.0), o.1)

    past : (rest : RefusalRule) (answer : Option Refusal) → refused_unless condition name (part accepted) None
        → refused_unless condition name (part rest) answer → rest answer
    past rest answer (inl (holds_not, e)) says = absurd (cc)
    past rest answer (inr (holds, part_passes)) (inl (holds_not, e)) = absurd (holds_not holds)
    past rest answer (inr (holds, part_passes)) (inr (_, says)) = is.past rest answer part_passes says

pub unique_part : (resources : List Resource) (labels : Labels) → IsRulePart (unless_unique resources labels)
unique_part resources labels = then_unless _ _ (λ rest. rest) nothing

pub known_part : (is_right : ℕ → Type 0) (resources : List Resource) (n : ℕ)
    → IsRulePart (unless_resource is_right resources n)
known_part is_right resources n = then_unless _ _ (λ rest. refused_unless (is_right n) no.WrongKind rest)
    (then_unless _ _ (λ rest. rest) nothing)

pub scheme_part : (resources : List Resource) (n : ℕ) → IsRulePart (unless_scheme resources n)
scheme_part resources n = known_part (IsScheme resources) resources n

pub owner_part : (resources : List Resource) (n : ℕ) → IsRulePart (unless_owner resources n)
owner_part resources n = then_unless _ _ _ (then_unless _ _ _ (then_unless _ _ (λ rest. rest) nothing))

pub relabelled_part : (labels : Labels) (resources : List Resource) (after : Labels) (owner : ℕ) (tag : List ℕ)
    → IsRulePart (unless_replaceable_preferred labels resources after owner tag)
relabelled_part labels resources after owner tag = then_unless _ _ _ (then_unless _ _ _ (unique_part resources after))

pub ends_part : (resources : List Resource) (l : Link) → IsRulePart (unless_ends resources l)
ends_part resources l =
    then_unless _ _ _ (then_unless _ _ _ (then_unless _ _ _ (then_if _ _ _ (then_unless _ _ (λ rest. rest) nothing))))

pub live_concept_part : (resources : List Resource) (n : ℕ) → IsRulePart (unless_live_concept resources n)
live_concept_part resources n = then_unless _ _ _ (then_unless _ _ _ (then_unless _ _ (λ rest. rest) nothing))

pub pair_part : (resources : List Resource) (source target : ℕ) → IsRulePart (unless_pair resources source target)
pair_part resources source target =
    then_unless _ _ _ (then_unless _ _ _ (then_unless _ _ _ (then_if _ _ _ (then_unless _ _ (λ rest. rest) nothing))))

pub listed_part : (histories : List History) (source : ℕ) (postings : List ℕ)
    → IsRulePart (unless_split_postings histories source postings)
listed_part histories source postings =
    then_unless _ _ _ (then_unless _ _ _ (then_unless _ _ _ (then_unless _ _ (λ rest. rest) nothing)))
