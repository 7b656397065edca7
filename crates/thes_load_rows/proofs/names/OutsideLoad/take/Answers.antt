use Rattle.std.proofs.Common.{◌≡◌, ◌∙◌, ◌++◌, ◌∷◌, [], List, ℕ, Bool, true, false, sym, ap, subst, arith}
use Rattle.thes_vocab.specs.Loading.{LoadIriResult}
use Rattle.thes_load_rows.specs.NamesSoFar.{HasOutside}
use Rattle.thes_load_rows.proofs.NameLoadLemmas.{outside_step, not_above}
use Rattle.thes_load_rows.proofs.names.OutsideLoad.take.Goals as goal

pub returns-then-branch : goal.returns-then-branch
returns-then-branch c = λ base rs rows has.
    let old = c.args.self.now.vocab in
    let number : c.get.result ≡ c.args.row.0 = c.get.ensures.value ∙ ap (λ (r : ℕ × List ℕ). r.0) c.row.view_is in
    let last : c.get-self.result ≡ c.args.row.0 = c.get-self.ensures.value ∙ ap (λ (r : ℕ × List ℕ). r.0)
    c.row.view_is in
    let up = c.if-self-get.true in
    let taken = subst (λ (r : ℕ × List ℕ). LoadIriResult old c.take_iri.new.self r.0 r.1 c.in_ok-take_iri.field-0)
    c.row.view_is c.in_ok-take_iri.ensures in
    subst (λ k. HasOutside base rs c.take_iri.new.self k (rows ++ c.args.row ∷ [])) (sym last)
    (outside_step base rs old c.take_iri.new.self c.args.self.now.last rows c.args.row has true
    (omega (arith, number, up)) c.requires
    (subst (λ (b : Bool). LoadIriResult old c.take_iri.new.self c.args.row.0 c.args.row.1 b) c.if-branch.true taken))

pub returns-else-branch : goal.returns-else-branch
returns-else-branch c = λ base rs rows has.
    let old = c.args.self.now.vocab in
    let number : c.get.result ≡ c.args.row.0 = c.get.ensures.value ∙ ap (λ (r : ℕ × List ℕ). r.0) c.row.view_is in
    let up = c.if-self-get.true in
    let taken = subst (λ (r : ℕ × List ℕ). LoadIriResult old c.take_iri.new.self r.0 r.1 c.in_ok-take_iri.field-0)
    c.row.view_is c.in_ok-take_iri.ensures in
    outside_step base rs old c.take_iri.new.self c.args.self.now.last rows c.args.row has false
    (omega (arith, number, up)) c.requires
    (subst (λ (b : Bool). LoadIriResult old c.take_iri.new.self c.args.row.0 c.args.row.1 b) c.if-branch.false taken)

pub returns-else-self-get : goal.returns-else-self-get
returns-else-self-get c = λ base rs rows has.
    let number : c.get.result ≡ c.args.row.0 = c.get.ensures.value ∙ ap (λ (r : ℕ × List ℕ). r.0) c.row.view_is in
    let not_up = c.if-self-get.false in
    not_above base rs c.args.self.now.vocab c.args.self.now.vocab c.args.self.now.last rows c.args.row has
    (omega (arith, number, not_up))
