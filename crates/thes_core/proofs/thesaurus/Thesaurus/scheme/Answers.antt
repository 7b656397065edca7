use Rattle.std.proofs.Common.{[], sym, ap, ◌∙◌, subst, refl}
use Rattle.std.specs.Prelude.{IsSome}
use Rattle.std.specs.Option.{option_copied}
use Rattle.thes_base.specs.Data.{ResourceData}
use Rattle.thes_base.proofs.UniquePreferredLemmas.{scheme_at}
use Rattle.thes_core.proofs.RequestCheckLemmas.{has_scheme}
use Rattle.thes_core.proofs.thesaurus.Thesaurus.scheme.Goals as goal

pub unwrap-requires-2 : goal.unwrap-requires-2
unwrap-requires-2 c =
    let rs = c.args.self.now.vocab.resources in
    let at = sym c.resource.ensures ∙ ap option_copied c.unwrap.ensures in
    let has = has_scheme c.args.self.now [] c.requires.kept c.args.concept c.requires.concept in
    let is = ap (λ (r : ResourceData). r.scheme) c.behind-resource.view_is
    ∙ sym (scheme_at rs c.args.concept c.unwrap.result.now at) ∙ has.1 in
    subst IsSome (sym is) refl
