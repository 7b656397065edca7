use Rattle.std.proofs.Common.{ap, sym, ◌∙◌}
use Rattle.std.specs.Option.{option_copied}
use Rattle.thes_plans.specs.References.{MakesResource}
use Rattle.thes_plans.proofs.ReferenceLemmas.{reference_at}
use Rattle.thes_plans.proofs.references.refers_to_resource.Goals as goal

pub returns-in-Some-request_at : goal.returns-in-Some-request_at
returns-in-Some-request_at c = reference_at MakesResource c.args.earlier.now c.args.reference c.in-Some.place
    c.in-Some-request_at.made.now c.makes_resource.result c.in-Some.is
    (sym c.request_at.ensures ∙ ap option_copied c.in-Some-request_at.is) c.makes_resource.ensures
