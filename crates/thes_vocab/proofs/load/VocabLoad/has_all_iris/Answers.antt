use Rattle.std.proofs.Common.{List, ℕ, subst, sym}
use Rattle.thes_base.specs.declared.data.Resource.{Resource}
use Rattle.thes_base.specs.Resources.{IsOutside}
use Rattle.thes_vocab.specs.Loading.{HasIri, HaveIris}
use Rattle.thes_vocab.proofs.load.VocabLoad.has_all_iris.Goals as goal

pub returns : goal.returns
returns c = (
  λ t. subst HaveIris c.self.view_is
      (subst (λ (rs : List Resource). (n : ℕ) → IsOutside rs n → HasIri c.self.inside.iris n) c.as_slice.ensures.value
      (c.have_iris.ensures.0 t)),
  λ all. c.have_iris.ensures.1 (subst (λ (rs : List Resource). (n : ℕ) → IsOutside rs n → HasIri c.self.inside.iris n)
      (sym c.as_slice.ensures.value) (subst HaveIris (sym c.self.view_is) all)),
)
