use Rattle.std.proofs.Common.{rules, lit<}
use Rattle.std.proofs.lemmas.Str.Pattern.{split_once_first}
use Rattle.thes_base.specs.Forms.{IsIriScheme}
use Rattle.thes_base.proofs.IriLemmas.{no_colon, cut_iri}
use Rattle.thes_base.proofs.form.is_iri.Goals as goal

pub returns-in-None : goal.returns-in-None
returns-in-None c =
    let none = rw c.in-None.is at (split_once_first 58 c.args.text.now c.split_once.result c.split_once.ensures.cases
    (lit< tt)) in
    (λ yes. absurd (search rules), λ iri. absurd (no_colon c.args.most c.args.text.now none iri))

pub returns-then-is_iri_scheme : goal.returns-then-is_iri_scheme
returns-then-is_iri_scheme c =
    let (found, front, back) =
    rw c.in-Some.is at (split_once_first 58 c.args.text.now c.split_once.result c.split_once.ensures.cases
    (lit< tt)) in
    let (to, from) = cut_iri c.args.most c.args.text.now c.in-Some.scheme.now c.in-Some.rest.now c.if-text-most.true
    found front back in
    let named : IsIriScheme c.in-Some.scheme.now = search rules in
    (λ yes. from (named, c.is_iri_rest.ensures.0 yes), λ iri. c.is_iri_rest.ensures.1 (to iri).1)

pub returns-else-is_iri_scheme : goal.returns-else-is_iri_scheme
returns-else-is_iri_scheme c =
    let (found, front, back) =
    rw c.in-Some.is at (split_once_first 58 c.args.text.now c.split_once.result c.split_once.ensures.cases
    (lit< tt)) in
    let (to, from) = cut_iri c.args.most c.args.text.now c.in-Some.scheme.now c.in-Some.rest.now c.if-text-most.true
    found front back in
    (λ yes. absurd (search rules), λ iri. c.is_iri_scheme.ensures.1 (to iri).0)
