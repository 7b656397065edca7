use Rattle.std.proofs.Common.{◌<◌, ◌^◌, ap, sym, ◌∙◌, subst, arith, rules, length}
use Rattle.thes_base.specs.declared.request.Command.TheVariants as request
use Rattle.thes_core.specs.Requests.{PartsAccept}
use Rattle.thes_core.proofs.ApplyLemmas.{split_fits}
use Rattle.thes_core.proofs.thesaurus.Thesaurus.answer.Goals as goal

pub returns-in-Split : goal.returns-in-Split
returns-in-Split c = λ hs ok are.
    let s = c.in-Split in
    let is = s.is ∙ ap (request.Split s.field-0 s.field-1 s.field-2) (sym c.as_slice.ensures) in
    let fits = split_fits c.args.self.now hs s.field-0 s.field-1 s.field-2 c.as_slice.result.now
    (subst (PartsAccept c.args.self.now hs) is ok) in
    let few : length c.as_slice.result.now < 2 ^ 32 = omega (arith, fits) in
    let count = c.count_postings.ensures few in
    search rules depth 12
